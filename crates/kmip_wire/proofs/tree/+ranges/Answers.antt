use Rattle.std.proofs.Common.{sym}
use Rattle.kmip_wire.proofs.Ranges.{ranges_more}
use Rattle.kmip_wire.proofs.tree.+ranges.Goals as goal

pub items_ranges-loop-item-preserved : goal.items_ranges-loop-item-preserved
items_ranges-loop-item-preserved t c =
    ranges_more c.deref-item-items.result.now c.args.items.now.items c.loop-item.item-index c.item-item.result c.deref-item-items.ensures.value c.loop-item-test.true (sym c.item-item.is) c.loop-item.invariant c.tree_ranges.ensures
