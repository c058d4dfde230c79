use Rattle.std.proofs.Common.{◌∙◌, sym, ap, Some, List, ℕ}
use Rattle.kmip_wire.specs.Items.{item_tree}
use Rattle.kmip_wire.proofs.Views.{big_is}
use Rattle.kmip_wire.proofs.item.ItemRef.big.Goals as goal

pub returns-in-BigInteger : goal.returns-in-BigInteger
unfolding item_tree
returns-in-BigInteger c = ap (λ (b : List ℕ). Some b) c.value.ensures
    ∙ sym (big_is c.args.self.bytes.now c.args.self.is_item
    (sym c.in-BigInteger.is ∙ c.kind.ensures))
