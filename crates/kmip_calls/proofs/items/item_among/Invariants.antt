use Rattle.std.proofs.Common.{◌≡◌, drop}
use Rattle.json.specs.Value.{items_view}
use Rattle.kmip_calls.specs.Values.{item_among}
use Rattle.kmip_calls.proofs.items.item_among.Given as goal

-- among the items that are left stands the one that stands among all
abbrev pub invariant-loop-item : goal.invariant-loop-item
invariant-loop-item l = item_among l.tag l.left (items_view (drop l.item-index l.items))
    ≡ item_among l.tag l.index (items_view l.items)
