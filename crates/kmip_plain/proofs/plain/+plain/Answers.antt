use Rattle.std.proofs.Common.{◌+◌, take, sym, ap, ◌∙◌, arith}
use Rattle.kmip_wire.specs.Sizes.{trees_size}
use Rattle.kmip_wire.specs.Tree.{trees_of}
use Rattle.kmip_tags.specs.Tags.{ATTRIBUTE_VALUE}
use Rattle.kmip_plain.specs.Names.{plain_name}
use Rattle.kmip_plain.specs.Writing.{has_tag}
use Rattle.kmip_plain.proofs.Objects.{sizes_at, rest_slice, named_more, skipped, written, object_written, ok_then, one_written, several_written}
use Rattle.kmip_plain.proofs.plain.+plain.Goals as goal

pub put_member-returns-then-not-has_tag-clause-tokens :
    goal.put_member-returns-then-not-has_tag-clause-tokens
put_member-returns-then-not-has_tag-clause-tokens t c =
    ok_then c.put_tree.result c.put_tree.ensures.tokens
    (λ done. one_written c.tag_of-tag.result c.args.named c.args.item.now c.args.later.now _ _ _ _
    c.tag_of-tag.ensures (c.as_str.ensures.bytes ∙ c.in_ok-name.ensures) c.in_ok-key.ensures.ok
    (sym c.has_tag.ensures ∙ c.if-not-has_tag.true) done)

pub put_member-returns-clause-tokens : goal.put_member-returns-clause-tokens
put_member-returns-clause-tokens t c =
    several_written c.tag_of-tag.result c.args.named c.named_after.result c.args.item.now c.args.later.now _ _ _ _ _ _ _
    c.tag_of-tag.ensures (c.as_str.ensures.bytes ∙ c.in_ok-name.ensures) c.in_ok-key.ensures.ok
    (sym c.has_tag.ensures ∙ c.if-not-has_tag.false) c.in_ok-begin_array.ensures.ok
    c.in_ok-put_tree.ensures.tokens c.named_after.ensures c.in_ok-put_tagged.ensures.tokens
    c.in_ok-end_array.ensures.ok

pub put_object-loop-index-preserved-then-has_tag :
    goal.put_object-loop-index-preserved-then-has_tag
put_object-loop-index-preserved-then-has_tag t c =
    let items = c.args.items.now in
    let i = c.loop-index.index in
    let item = c.index-items-index.result in
    record {
      tokens = skipped items i item _ _ c.loop-index-test.true c.index-items-index.is
          (ap (λ tag. has_tag tag (take i items)) (sym c.tag_of.ensures) ∙ sym c.has_tag.ensures ∙ c.if-has_tag.true)
          c.loop-index.invariant.tokens;
      before = c.loop-index.invariant.before;
      named = named_more items i item ATTRIBUTE_VALUE c.loop-index.named _ c.loop-index-test.true
          c.index-items-index.is c.loop-index.invariant.named c.named_after-named.ensures;
    }

pub put_object-put_member-requires : goal.put_object-put_member-requires
put_object-put_member-requires t c = (
  omega (
    arith,
    sizes_at c.args.items.now c.loop-index.index c.index-items-index.result c.loop-index-test.true c.index-items-index.is,
    ap (λ later. trees_size (trees_of later)) (rest_slice c.args.items.now (c.loop-index.index + 1)),
    c.decreases,
  ),
  tt,
)

pub put_object-loop-index-preserved : goal.put_object-loop-index-preserved
put_object-loop-index-preserved t c =
    let items = c.args.items.now in
    let i = c.loop-index.index in
    let item = c.index-items-index.result in
    record {
      tokens = written items i item _ c.loop-index.named _ _ _ c.loop-index-test.true c.index-items-index.is
          (rest_slice items (i + 1))
          (ap (λ tag. has_tag tag (take i items)) (sym c.tag_of.ensures) ∙ sym c.has_tag.ensures ∙ c.if-has_tag.false)
          c.loop-index.invariant.named c.in_ok-put_member.ensures.tokens c.loop-index.invariant.tokens;
      before = c.put_member.ensures.before ∙ c.loop-index.invariant.before;
      named = named_more items i item ATTRIBUTE_VALUE c.loop-index.named _ c.loop-index-test.true
          c.index-items-index.is c.loop-index.invariant.named c.named_after-named.ensures;
    }

pub put_object-returns-clause-tokens : goal.put_object-returns-clause-tokens
put_object-returns-clause-tokens t c =
    object_written c.args.items.now c.loop-index.index _ _ _ _ c.loop-index-test.false c.in_ok-begin_object.ensures.ok
    c.loop-index.invariant.tokens c.in_ok-end_object.ensures.ok

pub put_tagged-put_tree-requires : goal.put_tagged-put_tree-requires
put_tagged-put_tree-requires t c = (
  omega (
    arith,
    sizes_at c.args.items.now c.loop-item.item-index c.item-item.result c.loop-item-test.true c.item-item.is,
    c.decreases,
  ),
  tt,
)
