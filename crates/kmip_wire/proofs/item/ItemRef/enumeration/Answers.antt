use Rattle.std.proofs.Common.{◌∙◌, sym, ap, length, Some}
use Rattle.std.specs.Int.{w32, from_be_bytes}
use Rattle.kmip_wire.specs.Items.{item_tree}
use Rattle.kmip_wire.proofs.Views.{enumeration_is}
use Rattle.kmip_wire.proofs.item.ItemRef.enumeration.Goals as goal

pub number4-requires : goal.number4-requires
unfolding item_tree
number4-requires c = ap length c.value.ensures
    ∙ (enumeration_is c.args.self.bytes.now c.args.self.is_item
    (sym c.in-Enumeration.is ∙ c.kind.ensures)).0

pub returns-in-Enumeration : goal.returns-in-Enumeration
unfolding item_tree
returns-in-Enumeration c =
    ap (λ n. Some n) (c.number4.ensures ∙ ap (from_be_bytes w32) c.value.ensures)
    ∙ sym (enumeration_is c.args.self.bytes.now c.args.self.is_item (sym c.in-Enumeration.is ∙ c.kind.ensures)).1
