use Rattle.std.proofs.Common.{refl}
use Rattle.kmip_response.specs.declared.payload.ResponsePayload.TheVariants as payloads
use Rattle.kmip_client.specs.Requests as requests
use Rattle.kmip_client.proofs.Helped.{itself, helped}
use Rattle.kmip_client.proofs.client.Client.query.Goals as goal

pub returns : goal.returns
returns g c =
    helped c.query_request.result requests.query_request _ (λ payload. payloads.Query payload)
    (λ payload. payload) c.ask.result c.ask.result c.query_request.ensures (λ payload. refl)
    (itself c.ask.result) c.ask.ensures
