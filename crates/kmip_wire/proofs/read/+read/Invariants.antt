use Rattle.std.proofs.Common.{◌≡◌, ◌+◌, ◌*◌, ◌++◌}
use Rattle.kmip_wire.specs.Tree.{trees_of}
use Rattle.kmip_wire.specs.Sizes.{tree_size, trees_size}
use Rattle.kmip_wire.specs.Items.{item_tree, trees_left}
use Rattle.kmip_wire.proofs.read.+read.Given as goal

abbrev pub decreases-read_item : goal.decreases-read_item
decreases-read_item l = 2 * tree_size (item_tree l.item)

abbrev pub decreases-read_items : goal.decreases-read_items
decreases-read_items l = 2 * trees_size (trees_of (trees_left l.children)) + 1

abbrev pub invariant-read_items-loop-child : goal.invariant-read_items-loop-child
invariant-read_items-loop-child l = l.items ++ trees_left l.child-iterator ≡ trees_left l.fn.children
