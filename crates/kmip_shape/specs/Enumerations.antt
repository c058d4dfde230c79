-- Enumerations: their variants with numbers and names.
use Rattle.std.specs.Prelude.{ℕ, pos, Bool, true, false, cond, ◌&&◌, not, List, [], ◌∷◌, Option, Some, None, nat_eq, ◌≡◌}
use Rattle.std.specs.Str.{bytes_eq}
use Rattle.std.proofs.Common.{ap, sym, ◌∙◌}
use Rattle.kmip_shape.specs.Val.{Val, Number}
use Rattle.kmip_shape.specs.Shape.{Entry}
use Rattle.kmip_shape.specs.Same.{IsFaithful, same_unsigned}

-- a line of an enumeration's table: its number and its name
abbrev pub entry : ℕ → List ℕ → Entry
entry number name = record { number = number; name = name }

-- the first variant with the number, and none where there is none
abbrev pub variant_at : {T : Type 0} → (T → Entry) → List T → ℕ → Option T
variant_at line [] n = None
variant_at line (x ∷ xs) n = cond (nat_eq (line x).number n) (Some x) (variant_at line xs n)

abbrev pub has_number : ℕ → List Entry → Bool
has_number n [] = false
has_number n (e ∷ es) = cond (nat_eq n e.number) true (has_number n es)

abbrev pub has_name : List ℕ → List Entry → Bool
has_name s [] = false
has_name s (e ∷ es) = cond (bytes_eq s e.name) true (has_name s es)

-- no number and no name stands twice in a table
abbrev pub are_distinct : List Entry → Bool
are_distinct [] = true
are_distinct (e ∷ es) =
    not (has_number e.number es) && (not (has_name e.name es) && are_distinct es)

-- each variant is found by its number
abbrev pub AreFound : {T : Type 0} → (T → Entry) → List T → Type 0
AreFound {T} line variants = (x : T) → variant_at line variants (line x).number ≡ Some x

abbrev pub enumeration_val : {T : Type 0} → (T → Entry) → T → Val
enumeration_val line x = Number (pos (line x).number)

pub some_same : {T : Type 0} {x y : T} → Some x ≡ Some y → x ≡ y
some_same h = cc

pub same_variant : {T : Type 0} (line : T → Entry) (variants : List T) → AreFound line variants →
    IsFaithful (enumeration_val line)
same_variant line variants found x y h =
    some_same (sym (found x) ∙ (ap (variant_at line variants) (same_unsigned h) ∙ found y))

-- variants with the same number are equal, and so are variants with the same name
abbrev pub AreDistinct : {T : Type 0} → (T → Entry) → Type 0
AreDistinct {T} line =
    ((x y : T) → (line x).number ≡ (line y).number → x ≡ y) ×
    ((x y : T) → (line x).name ≡ (line y).name → x ≡ y)
