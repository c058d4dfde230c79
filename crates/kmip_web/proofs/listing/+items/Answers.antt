use Rattle.std.proofs.Common.{sym, arith}
use Rattle.kmip_wire.specs.Items.{item_tree, trees_left}
use Rattle.kmip_web.proofs.Listed.{children_smaller, children_sized, structure_listed}
use Rattle.kmip_web.proofs.listing.+items.Goals as goal

pub list_item-list_items-requires : goal.list_item-list_items-requires
list_item-list_items-requires t c =
    let tree = item_tree c.args.item in
    let inside = trees_left c.in-Some.children in (
      omega (arith, children_smaller tree inside (sym c.in-Some.ensures), c.decreases),
      omega (arith, children_sized tree inside (sym c.in-Some.ensures), c.requires),
    )

pub list_item-returns-clause-listed : goal.list_item-returns-clause-listed
list_item-returns-clause-listed t c =
    structure_listed c.args.at c.args.named (item_tree c.args.item) c.tag.result c.kind.result
    (trees_left c.in-Some.children)
    c.args.text.now c.push_head.new.text c.push_str-2.new.self c.list_items.new.text c.push_str-3.new.self
    c.in-Some.ensures c.tag.ensures c.kind.ensures c.in_ok-push_head.ensures c.in_ok-push_str-2.ensures c.in_ok-end.ensures.listed c.in_ok-push_str-3.ensures

pub list_item-returns-clause-end : goal.list_item-returns-clause-end
list_item-returns-clause-end t c = omega (
  arith,
  c.in_ok-end.ensures.end,
  children_sized (item_tree c.args.item)
      (trees_left c.in-Some.children) (sym c.in-Some.ensures),
)
