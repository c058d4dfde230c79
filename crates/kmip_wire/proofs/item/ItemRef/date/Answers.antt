use Rattle.std.proofs.Common.{◌∙◌, sym, ap, length, Some}
use Rattle.std.specs.Int.{w64, from_be_bytes}
use Rattle.kmip_wire.specs.Items.{item_tree}
use Rattle.kmip_wire.proofs.Views.{date_is}
use Rattle.kmip_wire.proofs.item.ItemRef.date.Goals as goal

pub number8-requires : goal.number8-requires
unfolding item_tree
number8-requires c = ap length c.value.ensures
    ∙ (date_is c.args.self.bytes.now c.args.self.is_item (sym c.in-DateTime.is ∙ c.kind.ensures)).0

pub returns-in-DateTime : goal.returns-in-DateTime
unfolding item_tree
returns-in-DateTime c =
    ap (λ n. Some n) (c.number8.ensures ∙ ap (from_be_bytes w64) c.value.ensures)
    ∙ sym (date_is c.args.self.bytes.now c.args.self.is_item (sym c.in-DateTime.is ∙ c.kind.ensures)).1
