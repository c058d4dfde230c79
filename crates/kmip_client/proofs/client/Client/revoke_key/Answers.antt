use Rattle.std.proofs.Common.{refl}
use Rattle.kmip_response.specs.declared.payload.ResponsePayload.TheVariants as payloads
use Rattle.kmip_client.specs.Calls.{nothing_of}
use Rattle.kmip_client.specs.Requests as requests
use Rattle.kmip_client.proofs.Helped.{helped}
use Rattle.kmip_client.proofs.client.Client.revoke_key.Goals as goal

pub returns : goal.returns
returns g c =
    helped c.revoke_request.result (requests.revoke_request c.args.private_key_id.now) _
    (λ payload. payloads.Revoke payload)
    nothing_of c.ask.result c.without_payload.result c.revoke_request.ensures
    (λ payload. refl) c.without_payload.ensures c.ask.ensures
