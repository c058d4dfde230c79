use Rattle.std.proofs.Common.{refl}
use Rattle.kmip_response.specs.declared.payload.ResponsePayload.TheVariants as payloads
use Rattle.kmip_client.specs.Requests as requests
use Rattle.kmip_client.proofs.Helped.{itself, helped}
use Rattle.kmip_client.proofs.client.Client.get_key.Goals as goal

pub returns : goal.returns
returns g c =
    helped c.get_request.result (requests.get_request c.args.key_id.now) _
    (λ payload. payloads.Get payload)
    (λ payload. payload) c.ask.result c.ask.result c.get_request.ensures (λ payload. refl)
    (itself c.ask.result) c.ask.ensures
