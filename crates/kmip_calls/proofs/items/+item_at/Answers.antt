use Rattle.std.proofs.Common.{map}
use Rattle.json.specs.Value.{value_view}
use Rattle.kmip_request_words.proofs.Rests.{rest_is}
use Rattle.kmip_calls.proofs.Paths.{at_path}
use Rattle.kmip_calls.proofs.items.+item_at.Goals as goal

pub returns : goal.returns
returns t c =
    at_path c.args.path.now _ (value_view c.args.item.now) (value_view c.in_ok-item_in.field-0.now)
    c.index_first-index.result.0 (map (λ name. name.now) c.index_first-index.result.1.now) _
    c.in-len1-up.len_at_least
    (rw (rest_is 1 c.args.path.now) at c.index_first-index.ensures.index)
    (rw (rest_is 1 c.args.path.now) at c.index_first-index.ensures.behind)
    c.in_ok-item_in.ensures c.item_at.ensures
