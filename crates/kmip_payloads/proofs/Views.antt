-- The tag of an item's tree, and what is kept.
use Rattle.std.proofs.Common.{◌≡◌, ℕ, ◌<◌, ◌%◌, ◌^◌, arith, Bool, true, false, not, ◌&&◌, List, ◌++◌, refl}
use Rattle.kmip_wire.specs.Parts.{tag_of}
use Rattle.kmip_payloads.specs.Items.{value_tree}
use Rattle.kmip_payloads.specs.Payload.{kept, are_none}
use Rattle.kmip_payloads.specs.declared.item.Value.{Value}
use Rattle.kmip_payloads.specs.declared.item.Value.TheVariants as values

pub tag_of_value : (tag : ℕ) (value : Value) → tag_of (value_tree tag value) ≡ tag
tag_of_value tag (values.Scalar value) = refl
tag_of_value tag (values.Structure items) = refl

pub none_kept : {A : Type 0} (b : Bool) (x : A) (xs : List A) → are_none (kept b x ++ xs) ≡ (not b && are_none xs)
none_kept true x xs = refl
none_kept false x xs = refl

pub three_bytes : (n : ℕ) → n < 2 ^ 24 → n % 2 ^ 24 ≡ n
three_bytes n lt = omega arith
