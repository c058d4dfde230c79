use Rattle.kmip_c.proofs.Operations.{with_any_id}
use Rattle.kmip_c.proofs.operation.operation_refusal.Goals as goal

pub returns-in-Some : goal.returns-in-Some
returns-in-Some c =
    with_any_id c.args.name.now c.args.version.now _ c.args.payload.now _
    (rw c.in-Some.is at c.in_ok-found.ensures)
