use Rattle.std.proofs.Common.{◌∙◌, sym, ap, Some, List, ℕ}
use Rattle.kmip_wire.specs.Items.{item_tree}
use Rattle.kmip_wire.proofs.Views.{bytes_is}
use Rattle.kmip_wire.proofs.item.ItemRef.bytes.Goals as goal

pub returns-in-ByteString : goal.returns-in-ByteString
unfolding item_tree
returns-in-ByteString c = ap (λ (b : List ℕ). Some b) c.value.ensures
    ∙ sym (bytes_is c.args.self.bytes.now c.args.self.is_item
    (sym c.in-ByteString.is ∙ c.kind.ensures))
