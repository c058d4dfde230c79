-- The variants of an enumeration and its table.
use Rattle.std.proofs.Common.{arith, ap, sym, ◌∙◌}
use Rattle.std.proofs.lemmas.Bool.Decides.{nat_tests}
use Rattle.std.specs.Prelude.{ℕ, pos, true, List, [], ◌∷◌, map, Option, Some, None, cond, if◌then◌else◌, ◌≡◌, refl}
use Rattle.std.specs.Option.{option_map}
use Rattle.std.specs.Str.{bytes_eq}
use Rattle.std.proofs.lemmas.Slice.Eq.{bytes_eq-Decides}
use Rattle.kmip_shape.specs.Val.{Number}
use Rattle.kmip_shape.specs.Shape.{Entry, in_table}
use Rattle.kmip_shape.specs.declared.style.Style.{Style}
use Rattle.kmip_shape.specs.Shown.{entry_in_style, word}
use Rattle.kmip_shape.specs.Enumerations.{variant_at, enumeration_val, has_name, are_distinct, AreFound, AreDistinct, some_same}

pub entry_read : {T : Type 0} (line : T → Entry) (xs : List T) (n : ℕ)
    → (if in_table n (map line xs) then Some (Number (pos n)) else None)
    ≡ option_map (enumeration_val line) (variant_at line xs n)
entry_read line [] n = refl
entry_read line (x ∷ xs) n = grind (arith, nat_tests, entry_read line xs n)

pub found_in_table : {T : Type 0} (line : T → Entry) (xs : List T) (n : ℕ) (x : T)
    → variant_at line xs n ≡ Some x → in_table n (map line xs) ≡ true
found_in_table line [] n x h = cc
found_in_table line (y ∷ xs) n x h = grind (arith, nat_tests, found_in_table line xs n x)

pub found_in_style : {T : Type 0} (line : T → Entry) (xs : List T) (n : ℕ) (x : T)
    → variant_at line xs n ≡ Some x → (o : Style)
    → entry_in_style (map line xs) n o ≡ word (line x).name o
found_in_style line [] n x h o = cc
found_in_style line (y ∷ xs) n x h o = grind (arith, nat_tests, found_in_style line xs n x)

-- the first of the variants that has the name
abbrev named : {T : Type 0} → (T → Entry) → List T → List ℕ → Option T
named line [] s = None
named line (x ∷ xs) s = cond (bytes_eq (line x).name s) (Some x) (named line xs s)

name_stands : {T : Type 0} (line : T → Entry) (xs : List T) (n : ℕ) (x : T)
    → variant_at line xs n ≡ Some x → has_name (line x).name (map line xs) ≡ true
name_stands line [] n x h = cc
name_stands line (y ∷ xs) n x h = grind
    (arith, nat_tests, name_stands line xs n x, bytes_eq-Decides (line x).name (line y).name)

found_named : {T : Type 0} (line : T → Entry) (xs : List T) (n : ℕ) (x : T)
    → are_distinct (map line xs) ≡ true → variant_at line xs n ≡ Some x
    → named line xs (line x).name ≡ Some x
found_named line [] n x d h = cc
found_named line (y ∷ xs) n x d h =
    grind (
      arith,
      nat_tests,
      found_named line xs n x,
      name_stands line xs n x,
      bytes_eq-Decides (line y).name (line x).name,
    )

pub variants_distinct : {T : Type 0} (line : T → Entry) (xs : List T) → AreFound line xs
    → are_distinct (map line xs) ≡ true → AreDistinct line
variants_distinct line xs found d = (
  (λ x y h. some_same (sym (found x) ∙ (ap (variant_at line xs) h ∙ found y))),
  (λ x y h. some_same (sym (found_named line xs _ x d (found x))
      ∙ (ap (named line xs) h ∙ found_named line xs _ y d (found y)))),
)
