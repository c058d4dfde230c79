use Rattle.std.proofs.Common.{◌∙◌, sym, ap, subst, Some, List, ℕ}
use Rattle.std.specs.Prelude.{IsUtf8}
use Rattle.kmip_wire.specs.Items.{item_tree}
use Rattle.kmip_wire.proofs.Views.{text_is}
use Rattle.kmip_wire.proofs.item.ItemRef.text.Goals as goal

pub returns-in-Ok : goal.returns-in-Ok
unfolding item_tree
returns-in-Ok c =
    ap (λ (b : List ℕ). Some b) (c.in-Ok.ensures.cases.0 ∙ c.value.ensures)
    ∙ sym (text_is c.args.self.bytes.now c.args.self.is_item
    (sym c.in-TextString.is ∙ c.kind.ensures)).1

pub unreachable-requires : goal.unreachable-requires
unfolding item_tree
unreachable-requires c =
    let t = (text_is c.args.self.bytes.now c.args.self.is_item (sym c.in-TextString.is ∙ c.kind.ensures)).0 in
    c.in-Err.ensures.cases.0 (subst (λ (b : List ℕ). IsUtf8 b) (sym c.value.ensures) t)
