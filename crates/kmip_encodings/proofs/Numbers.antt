-- Numbers that are printed as a text says.
use Rattle.std.proofs.Common.{◌≡◌, ℕ, ℤ, List, Bool, true, false, Some, None, refl, ap, ◌∙◌, bytes_eq, cond, ◌&&◌}
use Rattle.std.specs.Fmt.{signed_decimal}
use Rattle.std.specs.Str.Parse.{signed_digits_value}
use Rattle.std.proofs.lemmas.Slice.Eq.{bytes_eq-Decides}
use Rattle.kmip_encodings.specs.Reading.{whole_number, is_exact}

both : {A : Type 0} (a b : Bool) (x y : A) → a ≡ true → b ≡ true → cond (a && b) x y ≡ x
both a b x y p q = rw (p, q) refl

not_both : {A : Type 0} (a b : Bool) (x y : A) → (a ≡ true → b ≡ true → ⊥) → cond (a && b) x y ≡ y
not_both true true x y no_both = absurd (no_both refl refl)
not_both true false x y no_both = refl
not_both false b x y no_both = refl

pub whole_found : (word : List ℕ) (z : ℤ) → is_exact z ≡ true → signed_digits_value 10 word ≡ z
    → signed_decimal z ≡ word → whole_number word ≡ Some z
unfolding whole_number
whole_found word z small value is =
    both (is_exact (signed_digits_value 10 word))
    (bytes_eq (signed_decimal (signed_digits_value 10 word)) word)
    (Some (signed_digits_value 10 word)) None
    (ap is_exact value ∙ small) ((bytes_eq-Decides (signed_decimal (signed_digits_value 10 word))
    word).1 (ap signed_decimal value ∙ is))
    ∙ ap Some value

pub whole_none : (word : List ℕ) → ((z : ℤ) → is_exact z ≡ true → signed_decimal z ≡ word → ⊥)
    → whole_number word ≡ None
unfolding whole_number
whole_none word none =
    not_both (is_exact (signed_digits_value 10 word))
    (bytes_eq (signed_decimal (signed_digits_value 10 word)) word)
    (Some (signed_digits_value 10 word)) None
    (λ small same. none (signed_digits_value 10 word) small
    ((bytes_eq-Decides (signed_decimal (signed_digits_value 10 word)) word).0 same))
