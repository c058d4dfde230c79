use Rattle.std.proofs.Common.{sym, ◌∙◌}
use Rattle.kmip_caller.proofs.Asked.{none_without_id}
use Rattle.kmip_caller.proofs.requested.operation_request_of.Goals as goal

pub returns-in-None : goal.returns-in-None
returns-in-None c =
    none_without_id c.args.order.now c.args.name.now c.args.version.now
    _ c.args.payload.now c.requires.words
    (sym c.in_ok-id.ensures ∙ c.in-None.is)
