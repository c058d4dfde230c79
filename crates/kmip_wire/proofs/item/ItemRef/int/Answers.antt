use Rattle.std.proofs.Common.{◌∙◌, sym, ap, length, Some}
use Rattle.std.specs.Int.{w32, cast_signed, cast_unsigned, from_be_bytes}
use Rattle.std.proofs.lemmas.Int.{of_z-to_z}
use Rattle.kmip_wire.specs.Items.{item_tree}
use Rattle.kmip_wire.proofs.Views.{int_is}
use Rattle.kmip_wire.proofs.item.ItemRef.int.Goals as goal

pub number4-requires : goal.number4-requires
unfolding item_tree
number4-requires c = ap length c.value.ensures
    ∙ (int_is c.args.self.bytes.now c.args.self.is_item (sym c.in-Integer.is ∙ c.kind.ensures)).0

pub returns-in-Integer : goal.returns-in-Integer
unfolding item_tree
returns-in-Integer c =
    ap (λ z. Some (cast_signed w32 (cast_unsigned w32 z))) c.cast_signed.ensures
    ∙ ap (λ n. Some (cast_signed w32 n))
    (of_z-to_z w32 c.number4.result c.number4.type_inv ∙ c.number4.ensures
    ∙ ap (from_be_bytes w32) c.value.ensures)
    ∙ sym (int_is c.args.self.bytes.now c.args.self.is_item (sym c.in-Integer.is ∙ c.kind.ensures)).1
