use Rattle.std.proofs.Common.{◌≡◌, ◌∙◌, arith, rules, w32, List, length, take, replicate}
use Rattle.std.specs.Prelude.{ℕ, pos}
use Rattle.std.proofs.lemmas.Int.{to_z-of_z}
use Rattle.std.proofs.lemmas.List.{length-replicate, take-replicate}
use Rattle.kmip_tags.specs.Tags.{DATA}
use Rattle.kmip_wire.specs.Tree.{byte_string}
use Rattle.kmip_shape.specs.Writes.{leaf_size}
use Rattle.kmip_enums.specs.declared.operation.Operation.TheVariants as operations
use Rattle.kmip_words.specs.declared.call.Call.TheVariants.{Rng}
use Rattle.kmip_run.proofs.Responses.{item_made}
use Rattle.kmip_run.proofs.respond.random.Goals as goal

pub returns : goal.returns
returns c =
    let bytes : List ℕ = replicate c.args.count c.args.byte in
    let bytes_are : take c.args.count (replicate 256 c.args.byte) ≡ bytes =
    take-replicate c.args.count 256 c.args.byte (omega (arith, c.ranges.count.fits)) in
    let len : length bytes ≡ c.args.count = length-replicate c.args.count c.args.byte in
    let size : c.item_len.result ≡ leaf_size (byte_string bytes) =
    rw (c.from.ensures, bytes_are) at c.item_len.ensures in
    let made = item_made (pos 2) operations.RNGRetrieve DATA (byte_string bytes) c.item_len.result
    (omega (arith, len, c.ranges.count.fits)) size (omega (arith, size, len, c.ranges.count.fits))
    c.in_ok-response.ensures.bytes
    (rw (c.of.ensures, c.from.ensures, bytes_are) at c.put_bytes.ensures.bytes) c.into_blob.ensures in
    let count = to_z-of_z w32 c.from-2.result (search rules) ∙ c.from-2.ensures in
    λ i. record { call = Rng (count i); response = made i }
