use Rattle.std.proofs.Common.{take}
use Rattle.kmip_wire.specs.Tree.{trees_of}
use Rattle.kmip_wire.specs.Bytes.{HaveRanges}
use Rattle.kmip_wire.proofs.tree.+ranges.Given as goal

abbrev pub invariant-items_ranges-loop-item : goal.invariant-items_ranges-loop-item
invariant-items_ranges-loop-item l = HaveRanges (trees_of (take l.item-index l.items.items))
