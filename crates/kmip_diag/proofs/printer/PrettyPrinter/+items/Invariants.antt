use Rattle.std.proofs.Common.{◌≡◌, ◌+◌, ◌*◌, ◌++◌, ◌≤◌}
use Rattle.kmip_wire.specs.Tree.{trees_of}
use Rattle.kmip_wire.specs.Sizes.{tree_size, trees_size}
use Rattle.kmip_wire.specs.Items.{item_tree, trees_left}
use Rattle.kmip_diag.specs.Skeleton.{skeletons}
use Rattle.kmip_diag.specs.Printed.{printed_all}
use Rattle.kmip_diag.proofs.printer.PrettyPrinter.+items.Given as goal

abbrev pub decreases-print_item : goal.decreases-print_item
decreases-print_item l = 2 * tree_size (item_tree l.item)

abbrev pub decreases-print_items : goal.decreases-print_items
decreases-print_items l = 2 * trees_size (trees_of (trees_left l.children)) + 1

abbrev pub invariant-print_items-loop-child : goal.invariant-print_items-loop-child
invariant-print_items-loop-child l =
    (trees_size (trees_of (trees_left l.child-iterator)) ≤ trees_size (trees_of (trees_left l.fn.children)))
    × (l.fn.text ++ printed_all l.self (skeletons (trees_of (trees_left l.fn.children)))
    ≡ l.text ++ printed_all l.self (skeletons (trees_of (trees_left l.child-iterator))))
