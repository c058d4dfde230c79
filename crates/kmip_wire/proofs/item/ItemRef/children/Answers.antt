use Rattle.std.proofs.Common.{◌∙◌, sym, ap, Some}
use Rattle.kmip_wire.specs.Whole.{are_trees, the_trees}
use Rattle.kmip_wire.specs.Items.{item_tree, trees_left}
use Rattle.kmip_wire.proofs.Views.{children_are}
use Rattle.kmip_wire.proofs.item.ItemRef.children.Goals as goal

pub invariant_of-result : goal.invariant_of-result
unfolding item_tree
invariant_of-result c =
    let p = children_are c.args.self.bytes.now c.args.self.is_item (sym c.in-Structure.is ∙ c.kind.ensures) in
    record { are_items = ap are_trees c.value.ensures ∙ p.0 }

pub returns-in-Structure : goal.returns-in-Structure
unfolding item_tree trees_left
returns-in-Structure c =
    let p = children_are c.args.self.bytes.now c.args.self.is_item (sym c.in-Structure.is ∙ c.kind.ensures) in
    ap (λ b. Some (the_trees b)) c.value.ensures ∙ sym p.1
