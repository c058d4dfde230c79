use Rattle.kmip_words.specs.declared.call.Call.TheVariants.{Query}
use Rattle.kmip_run.proofs.Responses.{query_made}
use Rattle.kmip_run.proofs.respond.query_exchange.Goals as goal

pub returns : goal.returns
returns c =
    let made = query_made c.in_ok-response.ensures.bytes
    (rw c.of.ensures at c.put_value.ensures.bytes) (rw c.of-2.ensures at c.put_value-2.ensures.bytes)
    c.into_blob.ensures in
    λ i. record { call = Query; response = made i }
