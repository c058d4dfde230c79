use Rattle.std.proofs.Common.{sym, ◌∙◌}
use Rattle.kmip_caller.proofs.Asked.{none_of_table, words_of_none}
use Rattle.kmip_caller.proofs.requested.table_request.Goals as goal

pub returns-in-None : goal.returns-in-None
returns-in-None c =
    none_of_table c.args.order.now c.requires.tree c.requires.typed
    (words_of_none c.args.order.now.words _ (rw c.as_slice.ensures at c.with_id.ensures.value)
    (sym c.in_ok-id.ensures ∙ c.in-None.is))
