use Rattle.std.proofs.Common.{◌∙◌, sym, ap, length, eqb, Some}
use Rattle.std.specs.Int.{w64, from_be_bytes}
use Rattle.kmip_wire.specs.Items.{item_tree}
use Rattle.kmip_wire.proofs.Views.{flag_is}
use Rattle.kmip_wire.proofs.item.ItemRef.flag.Goals as goal

pub number8-requires : goal.number8-requires
unfolding item_tree
number8-requires c = ap length c.value.ensures
    ∙ (flag_is c.args.self.bytes.now c.args.self.is_item (sym c.in-Boolean.is ∙ c.kind.ensures)).0

pub returns-in-Boolean : goal.returns-in-Boolean
unfolding item_tree
returns-in-Boolean c =
    ap (λ n. Some (eqb n 1)) (c.number8.ensures ∙ ap (from_be_bytes w64) c.value.ensures)
    ∙ sym (flag_is c.args.self.bytes.now c.args.self.is_item (sym c.in-Boolean.is ∙ c.kind.ensures)).1
