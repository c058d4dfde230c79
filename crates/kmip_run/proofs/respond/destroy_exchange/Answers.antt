use Rattle.kmip_words.specs.declared.call.Call.TheVariants.{Destroy}
use Rattle.kmip_run.proofs.Responses.{gone_made}
use Rattle.kmip_run.proofs.respond.destroy_exchange.Goals as goal

pub returns : goal.returns
returns c =
    let made = gone_made c.args.id.now c.in_ok-response.ensures.bytes
    (rw c.of.ensures at c.put_value.ensures.bytes) (rw c.of-2.ensures at c.put_value-2.ensures.bytes)
    (rw c.of-3.ensures at c.put_text.ensures.bytes) c.into_blob.ensures in
    λ i. record { call = Destroy (c.in_ok-of.ensures i); response = made i }
