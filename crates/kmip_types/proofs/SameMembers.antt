-- Equality of lists of attribute values, member by member.
use Rattle.std.proofs.Common.{◌≡◌, refl, arith, ◌<◌, ◌≤◌, List, [], ◌∷◌, length, map}
use Rattle.std.specs.Prelude.{Bool, false}
use Rattle.kmip_shape.specs.Val.{vals_of}
use Rattle.kmip_types.specs.declared.attribute_value.AttributeValue.{AttributeValue}
use Rattle.kmip_types.specs.AttributeValues.{attribute_value_val}
use Rattle.kmip_types.specs.SameValues.{same_vals}

abbrev pub same_lists : List AttributeValue → List AttributeValue → Bool
same_lists xs ys = same_vals (vals_of (map attribute_value_val xs)) (vals_of (map attribute_value_val ys))

pub lists_long : (xs ys : List AttributeValue) → length xs < 1 → 1 ≤ length ys → false ≡ same_lists xs ys
lists_long [] [] h k = absurd (omega (arith, k))
lists_long [] (y ∷ ys) h k = refl
lists_long (x ∷ xs) ys h k = absurd (omega (arith, h))
