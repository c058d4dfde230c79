use Rattle.std.proofs.Common.{sym, ap, ◌∙◌, ◌+◌, arith, Some, length}
use Rattle.std.specs.Option.{option_map}
use Rattle.kmip_wire.specs.Bytes.{bytes}
use Rattle.kmip_wire.specs.Sees.{tree_of_node}
use Rattle.kmip_wire.proofs.Writing.{child_smaller, bytes_length, bytes_short, sum_more, sum_over, sum_none, sum_all, value_at}
use Rattle.kmip_wire.proofs.write.+length.Goals as goal

pub contents_len-tree_len-requires : goal.contents_len-tree_len-requires
contents_len-tree_len-requires t c = (
  omega (
    arith,
    child_smaller c.args.items.now c.loop-item.item-index c.item-item.result c.loop-item-test.true (sym c.item-item.is),
    c.decreases,
  ),
  tt,
)

pub contents_len-returns-in_default : goal.contents_len-returns-in_default
contents_len-returns-in_default t c =
    sum_none c.args.items.now c.loop-item.item-index c.item-item.result c.loop-item-test.true
    (sym c.item-item.is) c.in_default.ensures

pub contents_len-overflow_add-total : goal.contents_len-overflow_add-total
contents_len-overflow_add-total t c =
    omega (
      arith,
      c.loop-item.invariant.1,
      bytes_short c.item-item.result c.in-Some.len c.in-Some.ensures,
    )

pub contents_len-returns-then-total : goal.contents_len-returns-then-total
contents_len-returns-then-total t c =
    sum_over c.args.items.now (c.loop-item.item-index + 1) (c.loop-item.total + c.in-Some.len)
    (sum_more c.args.items.now c.loop-item.item-index c.item-item.result c.loop-item.total c.in-Some.len c.loop-item-test.true (sym c.item-item.is) c.loop-item.invariant.0 c.in-Some.ensures)
    (omega (arith, c.if-total.true))

pub contents_len-loop-item-preserved : goal.contents_len-loop-item-preserved
contents_len-loop-item-preserved t c = (
  sum_more c.args.items.now c.loop-item.item-index c.item-item.result c.loop-item.total c.in-Some.len c.loop-item-test.true (sym c.item-item.is) c.loop-item.invariant.0 c.in-Some.ensures,
  omega (arith, c.if-total.false),
)

pub contents_len-returns : goal.contents_len-returns
contents_len-returns t c = sum_all c.args.items.now c.loop-item.item-index c.loop-item.total
    (omega (arith, c.loop-item-test.false)) c.loop-item.invariant.0 c.loop-item.invariant.1

pub tree_len-returns : goal.tree_len-returns
tree_len-returns t c =
    bytes_length (tree_of_node c.tree.inside.tag c.tree.inside.node) (Some c.in-Some.len)
    (c.in-Some.ensures ∙ ap (option_map length) (value_at c.tree.inside.tag c.tree.inside.node))
    ∙ ap (λ t. option_map length (bytes t)) c.tree.view_is
