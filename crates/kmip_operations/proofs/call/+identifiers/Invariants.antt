use Rattle.std.proofs.Common.{◌≡◌, ◌+◌, ◌*◌, take, false}
use Rattle.kmip_wire.specs.Tree.{trees_of}
use Rattle.kmip_wire.specs.Sizes.{tree_size, trees_size}
use Rattle.kmip_operations.specs.Calls.{have_empty_identifier}
use Rattle.kmip_operations.proofs.call.+identifiers.Given as goal

abbrev pub decreases-has_empty_identifier : goal.decreases-has_empty_identifier
decreases-has_empty_identifier l = 2 * tree_size l.tree.now

abbrev pub decreases-have_empty_identifier : goal.decreases-have_empty_identifier
decreases-have_empty_identifier l = 2 * trees_size (trees_of l.items.now) + 1

abbrev pub invariant-have_empty_identifier-loop-item : goal.invariant-have_empty_identifier-loop-item
invariant-have_empty_identifier-loop-item l =
    have_empty_identifier (trees_of (take l.item-index l.items)) ≡ false
