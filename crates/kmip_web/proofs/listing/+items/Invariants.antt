use Rattle.std.proofs.Common.{◌≡◌, ◌+◌, ◌*◌, ◌++◌, ◌≤◌}
use Rattle.kmip_wire.specs.Tree.{trees_of}
use Rattle.kmip_wire.specs.Sizes.{tree_size, trees_size}
use Rattle.kmip_wire.specs.Items.{item_tree, trees_left}
use Rattle.kmip_tags.specs.Tags as tags
use Rattle.kmip_encodings.specs.Sizes.{sizes_of}
use Rattle.kmip_web.specs.Listing.{all_listed}
use Rattle.kmip_web.proofs.listing.+items.Given as goal

abbrev pub decreases-list_item : goal.decreases-list_item
decreases-list_item l = 2 * tree_size (item_tree l.item)

abbrev pub decreases-list_items : goal.decreases-list_items
decreases-list_items l = 2 * trees_size (trees_of (trees_left l.children)) + 1

abbrev pub invariant-list_items-loop-child : goal.invariant-list_items-loop-child
invariant-list_items-loop-child l =
    (trees_size (trees_of (trees_left l.child-iterator)) ≤ trees_size (trees_of (trees_left l.fn.children)))
    × (l.at + sizes_of (trees_of (trees_left l.child-iterator))
    ≡ l.fn.from + sizes_of (trees_of (trees_left l.fn.children)))
    × (l.fn.text ++ all_listed l.fn.from tags.ATTRIBUTE_VALUE (trees_of (trees_left l.fn.children))
    ≡ l.text ++ all_listed l.at l.named (trees_of (trees_left l.child-iterator)))
