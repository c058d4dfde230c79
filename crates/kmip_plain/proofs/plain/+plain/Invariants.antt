use Rattle.std.proofs.Common.{◌≡◌, ◌+◌, ◌*◌, ◌++◌, take, drop}
use Rattle.std.specs.Prelude.{fold}
use Rattle.kmip_tags.specs.Tags.{ATTRIBUTE_VALUE}
use Rattle.kmip_wire.specs.Tree.{trees_of}
use Rattle.kmip_wire.specs.Sizes.{tree_size, trees_size}
use Rattle.kmip_encodings.specs.Context.{named_after}
use Rattle.kmip_plain.proofs.Objects.{left, left_tokens, tagged_tokens}
use Rattle.kmip_plain.proofs.plain.+plain.Given as goal

abbrev pub decreases-put_tree : goal.decreases-put_tree
decreases-put_tree l = 3 * tree_size l.tree.now

abbrev pub decreases-put_object : goal.decreases-put_object
decreases-put_object l = 3 * trees_size (trees_of l.items.now) + 2

abbrev pub decreases-put_member : goal.decreases-put_member
decreases-put_member l = 3 * (tree_size l.item.now + trees_size (trees_of l.later.now)) + 1

abbrev pub decreases-put_tagged : goal.decreases-put_tagged
decreases-put_tagged l = 3 * trees_size (trees_of l.items.now)

abbrev pub invariant-put_object-loop-index : goal.invariant-put_object-loop-index
invariant-put_object-loop-index l = record {
  tokens :
      l.writer.tokens ++ left_tokens (left l.index l.items) l.items
      ≡ l.initial.writer.tokens ++ left_tokens (left 0 l.items) l.items;
  before : l.writer.before ≡ l.initial.writer.before;
  named : l.named ≡ fold named_after ATTRIBUTE_VALUE (take l.index l.items);
}

abbrev pub invariant-put_tagged-loop-item : goal.invariant-put_tagged-loop-item
invariant-put_tagged-loop-item l = record {
  tokens :
      l.writer.tokens ++ tagged_tokens l.tag l.named (drop l.item-index l.items)
      ≡ l.initial.writer.tokens ++ tagged_tokens l.tag l.initial.named l.items;
  before : l.writer.before ≡ l.initial.writer.before;
}
