use Rattle.std.proofs.Common.{refl}
use Rattle.kmip_response.specs.declared.payload.ResponsePayload.TheVariants as payloads
use Rattle.kmip_client.specs.Calls.{nothing_of}
use Rattle.kmip_client.specs.Requests as requests
use Rattle.kmip_client.proofs.Helped.{helped}
use Rattle.kmip_client.proofs.client.Client.activate_key.Goals as goal

pub returns : goal.returns
returns g c =
    helped c.activate_request.result (requests.activate_request c.args.private_key_id.now) _
    (λ payload. payloads.Activate payload)
    nothing_of c.ask.result c.without_payload.result c.activate_request.ensures
    (λ payload. refl) c.without_payload.ensures c.ask.ensures
