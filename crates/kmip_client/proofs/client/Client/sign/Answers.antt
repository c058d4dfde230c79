use Rattle.std.proofs.Common.{refl}
use Rattle.kmip_response.specs.declared.payload.ResponsePayload.TheVariants as payloads
use Rattle.kmip_client.specs.Requests as requests
use Rattle.kmip_client.proofs.Helped.{itself, helped}
use Rattle.kmip_client.proofs.client.Client.sign.Goals as goal

pub returns : goal.returns
returns g c =
    helped c.sign_request.result
    (requests.sign_request c.args.private_key_id.now c.args.in_bytes.now) _
    (λ payload. payloads.Sign payload)
    (λ payload. payload) c.ask.result c.ask.result c.sign_request.ensures (λ payload. refl)
    (itself c.ask.result) c.ask.ensures
