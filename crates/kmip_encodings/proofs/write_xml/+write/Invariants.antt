use Rattle.std.proofs.Common.{◌≡◌, ◌+◌, ◌*◌, ◌++◌, drop}
use Rattle.kmip_tags.specs.Tags.{ATTRIBUTE_VALUE}
use Rattle.kmip_wire.specs.Tree.{trees_of}
use Rattle.kmip_wire.specs.Sizes.{tree_size, trees_size}
use Rattle.kmip_encodings.specs.Xml.{items_xml}
use Rattle.kmip_encodings.proofs.write_xml.+write.Given as goal

abbrev pub decreases-put_tree : goal.decreases-put_tree
decreases-put_tree l = 2 * tree_size l.tree.now

abbrev pub decreases-put_structure : goal.decreases-put_structure
decreases-put_structure l = 2 * trees_size (trees_of l.items.now) + 1

abbrev pub invariant-put_structure-loop-item : goal.invariant-put_structure-loop-item
invariant-put_structure-loop-item l =
    l.out ++ items_xml l.named (trees_of (drop l.item-index l.items))
    ≡ l.initial.out ++ items_xml ATTRIBUTE_VALUE (trees_of l.items)
