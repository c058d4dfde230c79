use Rattle.std.proofs.Common.{◌≡◌, refl, rules}
use Rattle.kmip_response.specs.declared.payload.ResponsePayload.TheVariants as payloads
use Rattle.kmip_client.specs.Calls.{part_of}
use Rattle.kmip_store.specs.declared.call.Call.{Call}
use Rattle.kmip_server.specs.declared.answers.Answered.TheVariants as answered
use Rattle.kmip_server.proofs.Asked.{asked_of}
use Rattle.kmip_server.proofs.ask.rename.Goals as goal

pub returns : goal.returns
returns g c =
    let is : c.map.result ≡ part_of answered.Renamed c.rename_key.result = search rules in
    rw is
    (asked_of (Call.RenameKey c.args.id.now c.args.new_name.now) payloads.ModifyAttribute
    (λ payload. payload) answered.Renamed c.rename_key.result (λ p. refl) (λ p. tt)
    (rw (c.as_str.ensures.bytes, c.in_ok-new_name.ensures) at c.rename_key.ensures))
