use Rattle.std.proofs.Common.{sym, ap, arith, ◌++◌}
use Rattle.kmip_wire.specs.Tree.{trees_of}
use Rattle.kmip_wire.specs.Sizes.{trees_size}
use Rattle.kmip_wire.specs.Items.{item_tree, trees_left}
use Rattle.kmip_diag.specs.Skeleton.{skeletons}
use Rattle.kmip_diag.specs.Printed.{printed_all}
use Rattle.kmip_diag.proofs.Trees.{children_smaller, child_smaller, structure_printed, child_printed, all_printed, at_ok}
use Rattle.kmip_diag.proofs.printer.PrettyPrinter.+items.Goals as goal

pub print_item-print_items-requires : goal.print_item-print_items-requires
print_item-print_items-requires t c = (
  omega (
    arith,
    children_smaller (item_tree c.args.item) (trees_left c.in-Some-children.children)
        (sym c.in-Some-children.ensures),
    c.decreases,
  ),
  tt,
)

pub print_item-returns : goal.print_item-returns
print_item-returns t c =
    at_ok c.push_str-2.result c.push_str-2.new.self _ _ _ c.push_str-2.ensures
    (structure_printed c.args.self.now (item_tree c.args.item) c.tag.result
    (trees_left c.in-Some-children.children)
    c.args.text.now c.push_tag.new.text c.push_str.new.self c.print_items.new.text c.push_str-2.new.self
    c.in-Some-children.ensures c.tag.ensures c.in_ok-push_tag.ensures c.in_ok-push_str.ensures c.in_ok-print_items.ensures)

pub print_items-loop-child-init : goal.print_items-loop-child-init
print_items-loop-child-init t c =
    let same = c.into_iter-child-iterator.ensures.into_iter_gives
    in (
      omega (arith, ap (λ k. trees_size (trees_of (trees_left k))) same),
      ap (λ k. c.args.text.now ++ printed_all c.args.self.now (skeletons (trees_of (trees_left k)))) (sym same),
    )

pub print_items-print_item-requires : goal.print_items-print_item-requires
print_items-print_item-requires t c =
    let small = child_smaller (trees_left c.loop-child.child-iterator) (trees_left c.next.new.self)
    (item_tree c.in-Some.child) c.in-Some.ensures.steps
    in (omega (arith, c.decreases, c.loop-child.invariant.0, small.0), tt)

pub print_items-loop-child-preserved : goal.print_items-loop-child-preserved
print_items-loop-child-preserved t c =
    let now = trees_left c.loop-child.child-iterator
    in let rest = trees_left c.next.new.self
    in let small = child_smaller now rest (item_tree c.in-Some.child) c.in-Some.ensures.steps
    in (
      omega (arith, c.loop-child.invariant.0, small.1),
      child_printed c.args.self.now _ c.loop-child.text c.print_item.new.text now rest
          (item_tree c.in-Some.child)
          c.loop-child.invariant.1 c.in-Some.ensures.steps c.in_ok-print_item.ensures,
    )

pub print_items-returns : goal.print_items-returns
print_items-returns t c = all_printed c.args.self.now _ c.loop-child.text
    (trees_left c.loop-child.child-iterator) c.loop-child.invariant.1 c.in-None.ensures.steps.0
