use Rattle.std.proofs.Common.{ap, subst, ◌∙◌, List, ℕ, Option, option_map, Bor}
use Rattle.kmip_wire.specs.Found.{GivesBytes}
use Rattle.kmip_client.specs.Operation.{TreeRequest, operation_bytes}
use Rattle.kmip_operations.specs.Calls.{request_of}
use Rattle.kmip_operations.proofs.request.operation_request.Goals as goal

pub returns : goal.returns
returns c =
    let call = c.args.call.now in
    let asked : Option (List ℕ) → TreeRequest = λ id.
    record { operation = call.operation; version = call.version; id = id; payload = call.payload } in
    let P : Option (List ℕ) → Type 0 = λ bytes. GivesBytes c.write_operation_request.result bytes in
    c.bytes_if_any.ensures (operation_bytes (request_of call) c.args.settings.now.credential)
    (subst P
    (ap (operation_bytes (asked (option_map (λ (id : Bor (List ℕ)). id.now) c.id_of.result)))
    c.authentication.ensures
    ∙ ap (λ (id : Option (List ℕ)). operation_bytes (asked id) c.args.settings.now.credential)
    c.id_of.ensures)
    c.write_operation_request.ensures)
