-- Numbers of 64 bits that are printed as a text says.
use Rattle.std.proofs.Common.{◌≡◌, ℕ, ℤ, pos, negsuc, List, Bool, true, false, Some, None, refl, ap, ◌∙◌, bytes_eq, cond, ◌&&◌, ◌<◌, ◌^◌, w64, FitsSigned, arith}
use lib.Signed.{mag}
use Rattle.std.specs.Fmt.{signed_decimal}
use Rattle.std.specs.Str.Parse.{signed_digits_value}
use Rattle.std.proofs.lemmas.Bool.Decides.{nat_tests}
use Rattle.std.proofs.lemmas.Slice.Eq.{bytes_eq-Decides}
use Rattle.kmip_xml.specs.Scalars.{is_long, long_number}

pub long_mag : (z : ℤ) → is_long z ≡ true → mag z < 2 ^ 63
long_mag (pos n) h = grind (arith, nat_tests)
long_mag (negsuc n) h = grind (arith, nat_tests)

pub long_fits : (z : ℤ) → is_long z ≡ true → FitsSigned w64 z
long_fits (pos n) h = grind (arith, nat_tests)
long_fits (negsuc n) h = grind (arith, nat_tests)

pub fits_long : (z : ℤ) → FitsSigned w64 z → is_long z ≡ true
fits_long (pos n) h = grind (arith, nat_tests, h.sfits)
fits_long (negsuc n) h = grind (arith, nat_tests, h.sfits)

both : {A : Type 0} (a b : Bool) (x y : A) → a ≡ true → b ≡ true → cond (a && b) x y ≡ x
both a b x y p q = rw (p, q) refl

not_both : {A : Type 0} (a b : Bool) (x y : A) → (a ≡ true → b ≡ true → ⊥) → cond (a && b) x y ≡ y
not_both true true x y no_both = absurd (no_both refl refl)
not_both true false x y no_both = refl
not_both false b x y no_both = refl

pub long_found : (word : List ℕ) (z : ℤ) → is_long z ≡ true → signed_digits_value 10 word ≡ z
    → signed_decimal z ≡ word → long_number word ≡ Some z
unfolding long_number
long_found word z small value is =
    both (is_long (signed_digits_value 10 word))
    (bytes_eq (signed_decimal (signed_digits_value 10 word)) word)
    (Some (signed_digits_value 10 word)) None
    (ap is_long value ∙ small) ((bytes_eq-Decides (signed_decimal (signed_digits_value 10 word))
    word).1 (ap signed_decimal value ∙ is))
    ∙ ap Some value

pub long_none : (word : List ℕ) → ((z : ℤ) → is_long z ≡ true → signed_decimal z ≡ word → ⊥)
    → long_number word ≡ None
unfolding long_number
long_none word none =
    not_both (is_long (signed_digits_value 10 word))
    (bytes_eq (signed_decimal (signed_digits_value 10 word)) word)
    (Some (signed_digits_value 10 word)) None
    (λ small same. none (signed_digits_value 10 word) small
    ((bytes_eq-Decides (signed_decimal (signed_digits_value 10 word)) word).0 same))
