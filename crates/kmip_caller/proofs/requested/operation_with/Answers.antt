use Rattle.kmip_caller.proofs.Asked.{operation_asks, none_with_id}
use Rattle.kmip_caller.proofs.requested.operation_with.Goals as goal

pub returns-in_default : goal.returns-in_default
returns-in_default c =
    none_with_id c.args.order.now c.args.name.now c.args.version.now
    _ c.args.payload.now c.args.id.now c.requires.words c.requires.id
    (rw (c.in_default.is, c.bytes_in.ensures) at c.in_ok-call.ensures)

pub returns : goal.returns
returns c =
    operation_asks c.args.order.now c.args.name.now c.args.version.now
    _ c.args.payload.now c.args.id.now
    c.in-Some.call _ c.requires.words c.requires.id
    (rw (c.in-Some.is, c.bytes_in.ensures) at c.in_ok-call.ensures)
    c.in_ok-request.ensures
