-- What C gets for a value of an answer.
use Rattle.std.proofs.Common.{◌≡◌, ℕ, ℤ, List, Bool, Option, refl, subst}
use Rattle.std.specs.Str.{IsUtf8}
use Rattle.std.proofs.lemmas.Str.{is_utf8-from_IsUtf8}
use Rattle.kmip_calls.specs.Values.{value_in}
use Rattle.kmip_c.specs.Calls.{IsValueReported}
use Rattle.kmip_exports.specs.Exports.{IsReported}
use Rattle.kmip_c.specs.Codes.{grammar, no_value}
use Rattle.kmip_c.proofs.Calls.{not_utf8}

pub no_line : (line path before : List ℕ) (hex : Bool) → (IsUtf8 line → ⊥) →
    IsValueReported line path hex before grammar before
no_line line path before hex not = rw (not_utf8 line not) (refl, refl)

pub no_path : (line path before : List ℕ) (hex : Bool) → IsUtf8 line → (IsUtf8 path → ⊥) →
    IsValueReported line path hex before grammar before
no_path line path before hex utf8 not =
    rw (is_utf8-from_IsUtf8 line utf8, not_utf8 path not) (refl, refl)

pub valued : (line path before after : List ℕ) (hex : Bool) (value : Option (List ℕ)) (result : ℤ) →
    IsUtf8 line → IsUtf8 path → value ≡ value_in path hex line →
    IsReported value no_value before result after →
    IsValueReported line path hex before result after
valued line path before after hex value result utf8 also is reported =
    let P : Option (List ℕ) → Type 0 = λ x. IsReported x no_value before result after in
    rw (is_utf8-from_IsUtf8 line utf8, is_utf8-from_IsUtf8 path also) (subst P is reported)
