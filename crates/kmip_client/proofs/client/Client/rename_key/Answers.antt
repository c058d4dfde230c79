use Rattle.std.proofs.Common.{refl}
use Rattle.kmip_response.specs.declared.payload.ResponsePayload.TheVariants as payloads
use Rattle.kmip_client.specs.Requests as requests
use Rattle.kmip_client.proofs.Helped.{itself, helped}
use Rattle.kmip_client.proofs.client.Client.rename_key.Goals as goal

pub returns : goal.returns
returns g c =
    helped c.rename_request.result (requests.rename_request c.args.key_id.now c.args.new_name) _
    (λ payload. payloads.ModifyAttribute payload)
    (λ payload. payload) c.ask.result c.ask.result c.rename_request.ensures (λ payload. refl)
    (itself c.ask.result) c.ask.ensures
