use Rattle.std.proofs.Common.{◌∙◌, sym, ap, length, Some}
use Rattle.std.specs.Int.{w64, cast_signed, cast_unsigned, from_be_bytes}
use Rattle.std.proofs.lemmas.Int.{of_z-to_z}
use Rattle.kmip_wire.specs.Items.{item_tree}
use Rattle.kmip_wire.proofs.Views.{long_is}
use Rattle.kmip_wire.proofs.item.ItemRef.long.Goals as goal

pub number8-requires : goal.number8-requires
unfolding item_tree
number8-requires c = ap length c.value.ensures
    ∙ (long_is c.args.self.bytes.now c.args.self.is_item
    (sym c.in-LongInteger.is ∙ c.kind.ensures)).0

pub returns-in-LongInteger : goal.returns-in-LongInteger
unfolding item_tree
returns-in-LongInteger c =
    ap (λ z. Some (cast_signed w64 (cast_unsigned w64 z))) c.cast_signed.ensures
    ∙ ap (λ n. Some (cast_signed w64 n))
    (of_z-to_z w64 c.number8.result c.number8.type_inv ∙ c.number8.ensures
    ∙ ap (from_be_bytes w64) c.value.ensures)
    ∙ sym (long_is c.args.self.bytes.now c.args.self.is_item (sym c.in-LongInteger.is ∙ c.kind.ensures)).1
