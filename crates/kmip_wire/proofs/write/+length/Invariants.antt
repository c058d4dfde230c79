use Rattle.std.proofs.Common.{◌≡◌, ◌+◌, ◌*◌, ◌<◌, ◌^◌, take, length, Some}
use Rattle.std.specs.Option.{option_map}
use Rattle.kmip_wire.specs.Sees.{tree_of_node}
use Rattle.kmip_wire.specs.Tree.{trees_of}
use Rattle.kmip_wire.specs.Sizes.{tree_size, trees_size}
use Rattle.kmip_wire.specs.Bytes.{all_bytes}
use Rattle.kmip_wire.proofs.write.+length.Given as goal

abbrev pub decreases-tree_len : goal.decreases-tree_len
decreases-tree_len l = 2 * tree_size l.tree.now + 1

abbrev pub decreases-value_len : goal.decreases-value_len
decreases-value_len l = 2 * tree_size (tree_of_node 0 l.node.now)

abbrev pub decreases-contents_len : goal.decreases-contents_len
decreases-contents_len l = 2 * trees_size (trees_of l.items.now)

abbrev pub invariant-contents_len-loop-item : goal.invariant-contents_len-loop-item
invariant-contents_len-loop-item l =
    (Some l.total ≡ option_map length (all_bytes (trees_of (take l.item-index l.items))))
    × (l.total < 2 ^ 32)
