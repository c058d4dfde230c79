use Rattle.std.proofs.Common.{drop, false}
use Rattle.kmip_shape.specs.Shape.{NoCase}
use Rattle.kmip_shape.specs.Writes.{vals}
use Rattle.kmip_shape.specs.Shown.{Growing, Grows, list_in_style}
use Rattle.kmip_shape.proofs.show.show_items.Given as goal

-- what shows the items that are left shows all
abbrev pub invariant-loop-item : goal.invariant-loop-item
invariant-loop-item g l =
    (new : Growing) → Grows l.out new
    (list_in_style (vals g.T.Item.val (drop l.item-index l.items))
    NoCase g.T.Item.shape l.after)
    → Grows l.fn.out new (list_in_style (vals g.T.Item.val l.items) NoCase g.T.Item.shape false)
