use Rattle.std.proofs.Common.{arith}
use Rattle.std.specs.Prelude.{pos}
use Rattle.kmip_tags.specs.Tags.{UNIQUE_IDENTIFIER}
use Rattle.kmip_wire.specs.Tree.{text_string}
use Rattle.kmip_enums.specs.declared.operation.Operation.TheVariants as operations
use Rattle.kmip_words.specs.declared.call.Call.TheVariants.{Activate}
use Rattle.kmip_run.proofs.Responses.{item_made}
use Rattle.kmip_run.proofs.respond.activate_exchange.Goals as goal

pub returns : goal.returns
returns c =
    let made = item_made (pos 0) operations.Activate UNIQUE_IDENTIFIER (text_string c.args.id.now)
    c.item_len.result (omega (arith, c.requires)) c.item_len.ensures
    (omega (arith, c.item_len.ensures, c.requires)) c.in_ok-response.ensures.bytes
    (rw c.of.ensures at c.put_text.ensures.bytes) c.into_blob.ensures in
    λ i. record { call = Activate (c.in_ok-of.ensures i); response = made i }
