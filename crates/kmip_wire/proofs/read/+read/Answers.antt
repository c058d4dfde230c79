use Rattle.std.proofs.Common.{sym, arith}
use Rattle.kmip_wire.specs.Items.{item_tree, trees_left}
use Rattle.kmip_wire.proofs.Owned.{children_smaller, a_scalar, made_scalar, made_structure, next_smaller}
use Rattle.kmip_wire.proofs.read.+read.Goals as goal

pub read_item-read_items-requires : goal.read_item-read_items-requires
read_item-read_items-requires t c = (
  omega (
    arith,
    children_smaller (item_tree c.args.item) (trees_left c.in-Some.children)
        (sym c.in-Some.ensures),
    c.decreases,
  ),
  tt,
)

pub read_item-read_scalar-requires : goal.read_item-read_scalar-requires
unfolding item_tree
read_item-read_scalar-requires t c =
    a_scalar c.args.item.bytes.now c.value.result.now c.kind.result c.args.item.is_item
    (sym c.in-None.ensures) c.kind.ensures c.value.ensures

pub read_items-read_item-requires : goal.read_items-read_item-requires
read_items-read_item-requires t c = (
  omega (
    arith,
    next_smaller c.loop-child.items (trees_left c.args.children)
        (trees_left c.loop-child.child-iterator) _
        (item_tree c.in-Some.child) c.loop-child.invariant c.in-Some.ensures.steps,
    c.decreases,
  ),
  tt,
)

pub read_item-returns-in_ok-read_items-in-Some : goal.read_item-returns-in_ok-read_items-in-Some
unfolding item_tree
read_item-returns-in_ok-read_items-in-Some t c =
    made_structure c.args.item.bytes.now c.tag-tag.result c.in_ok-read_items-in-Some.field-0
    (trees_left c.in-Some.children) (sym c.in-Some.ensures)
    c.tag-tag.ensures c.in_ok-read_items-in-Some.ensures

pub read_item-returns-in_ok-read_scalar-in-None : goal.read_item-returns-in_ok-read_scalar-in-None
unfolding item_tree
read_item-returns-in_ok-read_scalar-in-None t c =
    made_scalar c.args.item.bytes.now c.value.result.now c.kind.result c.tag-tag.result c.in_ok-read_scalar-in-None.field-0 c.args.item.is_item (sym c.in-None.ensures) c.kind.ensures c.value.ensures c.tag-tag.ensures c.in_ok-read_scalar-in-None.ensures
