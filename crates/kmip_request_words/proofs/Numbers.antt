-- Numbers that are printed as a word says.
use Rattle.std.proofs.Common.{◌≡◌, ℕ, ◌<◌, ◌^◌, ℤ, pos, negsuc, List, Bool, true, false, Some, None, refl, ap, sym, subst, ◌∙◌, arith, bytes_eq, nat_lt, w32, FitsSigned, cond, ◌&&◌}
use Rattle.std.specs.Int.{cast_signed, cast_unsigned, w64}
use Rattle.std.specs.Option.{option_map}
use Rattle.std.proofs.lemmas.Int.{to_z_pos, of_z-to_z}
use Rattle.std.proofs.lemmas.Bool.{and_parts}
use Rattle.std.proofs.lemmas.Option.{none-some, same_Some}
use lib.Signed.{mag}
use Rattle.std.specs.Fmt.{decimal, signed_decimal}
use Rattle.std.specs.Str.Parse.{digits_value, signed_digits_value}
use Rattle.std.proofs.lemmas.Fmt.{decimal_is_IsNumeral}
use Rattle.std.proofs.lemmas.Slice.Eq.{bytes_eq-Decides}
use Rattle.std.proofs.lemmas.Bool.Decides.{nat_tests}
use Rattle.kmip_request_words.specs.Values.{int_of, number_of, long_of, count_of, is_i32}

pub fits_from_is_i32 : (z : ℤ) → is_i32 z ≡ true → FitsSigned w32 z
fits_from_is_i32 (pos n) small = grind (arith, nat_tests)
fits_from_is_i32 (negsuc n) small = grind (arith, nat_tests)

pub is_i32_from_fits : (z : ℤ) → FitsSigned w32 z → is_i32 z ≡ true
is_i32_from_fits (pos n) fits = grind (arith, nat_tests)
is_i32_from_fits (negsuc n) fits = grind (arith, nat_tests)

pub small_mag : (z : ℤ) → FitsSigned w32 z → mag z < 2 ^ 63
small_mag z fits = omega arith

both : {A : Type 0} (a b : Bool) (x y : A) → a ≡ true → b ≡ true → cond (a && b) x y ≡ x
both a b x y p q = rw (p, q) refl

not_both : {A : Type 0} (a b : Bool) (x y : A) → (a ≡ true → b ≡ true → ⊥) → cond (a && b) x y ≡ y
not_both true true x y no_both = absurd (no_both refl refl)
not_both true false x y no_both = refl
not_both false b x y no_both = refl

below : (n m : ℕ) → n < m → nat_lt n m ≡ true
below n m h = grind (arith, nat_tests)

is_below : (n m : ℕ) → nat_lt n m ≡ true → n < m
is_below n m h = grind (arith, nat_tests)

-- the number that is printed so is found
pub number_found : (word : List ℕ) (n : ℕ) → n < 2 ^ 32 → decimal n ≡ word → number_of word ≡ Some n
unfolding number_of
number_found word n small is =
    let value : digits_value 10 word ≡ n = ap (digits_value 10) (sym is) ∙ (decimal_is_IsNumeral n (omega arith)).1 in
    both (nat_lt (digits_value 10 word) (2 ^ 32)) (bytes_eq (decimal (digits_value 10 word)) word)
    (Some (digits_value 10 word)) None
    (rw value (below n (2 ^ 32) small))
    ((bytes_eq-Decides (decimal (digits_value 10 word)) word).1 (ap decimal value ∙ is))
    ∙ ap Some value

-- where no number is printed so, none is found
pub number_none : (word : List ℕ) → ((n : ℕ) → n < 2 ^ 32 → decimal n ≡ word → ⊥) → number_of word ≡ None
unfolding number_of
number_none word none =
    not_both (nat_lt (digits_value 10 word) (2 ^ 32))
    (bytes_eq (decimal (digits_value 10 word)) word) (Some (digits_value 10 word)) None
    (λ small same. none (digits_value 10 word) (is_below _ _ small)
    ((bytes_eq-Decides (decimal (digits_value 10 word)) word).0 same))

-- the same of longer numbers
pub long_found : (word : List ℕ) (n : ℕ) → n < 2 ^ 63 → decimal n ≡ word → long_of word ≡ Some n
unfolding long_of
long_found word n small is =
    let value : digits_value 10 word ≡ n = ap (digits_value 10) (sym is) ∙ (decimal_is_IsNumeral n (omega arith)).1 in
    both (nat_lt (digits_value 10 word) (2 ^ 63)) (bytes_eq (decimal (digits_value 10 word)) word)
    (Some (digits_value 10 word)) None
    (rw value (below n (2 ^ 63) small))
    ((bytes_eq-Decides (decimal (digits_value 10 word)) word).1 (ap decimal value ∙ is))
    ∙ ap Some value

pub long_none : (word : List ℕ) → ((n : ℕ) → n < 2 ^ 63 → decimal n ≡ word → ⊥) → long_of word ≡ None
unfolding long_of
long_none word none =
    not_both (nat_lt (digits_value 10 word) (2 ^ 63))
    (bytes_eq (decimal (digits_value 10 word)) word) (Some (digits_value 10 word)) None
    (λ small same. none (digits_value 10 word) (is_below _ _ small)
    ((bytes_eq-Decides (decimal (digits_value 10 word)) word).0 same))

-- and as an integer it is the same number
pub long_small : (word : List ℕ) (n : ℕ) → Some n ≡ long_of word → n < 2 ^ 63
unfolding long_of
long_small word n is =
    elim (nat_lt (digits_value 10 word) (2 ^ 63) && bytes_eq (decimal (digits_value 10 word)) word) as
    (λ b. (nat_lt (digits_value 10 word) (2 ^ 63) && bytes_eq (decimal (digits_value 10 word)) word) ≡ b
    → Some n ≡ cond b (Some (digits_value 10 word)) None → n < 2 ^ 63) [
      | true ↦ λ e same. subst (λ m. m < 2 ^ 63) (sym (same_Some _ _ same))
          (is_below _ _ (and_parts _ _ e).0)
      | false ↦ λ e same. absurd (none-some _ (sym same))
    ] refl is

-- a small number stays what it is where it is cast to an integer, back and again
cast_back : (n : ℕ) → n < 2 ^ 63 → cast_signed w64 (cast_unsigned w64 (cast_signed w64 n)) ≡ pos n
cast_back n small =
    ap (cast_signed w64) (of_z-to_z w64 n (omega (arith, small))) ∙ to_z_pos w64 n small

pub count_back : (word : List ℕ) (n : ℕ) (z : ℤ) → long_of word ≡ Some n → z ≡ cast_signed w64 n
    → Some (cast_signed w64 (cast_unsigned w64 z)) ≡ count_of word
unfolding count_of
count_back word n z is casts =
    ap Some (ap (λ y. cast_signed w64 (cast_unsigned w64 y)) casts
    ∙ cast_back n (long_small word n (sym is))) ∙ sym (ap (option_map pos) is)

pub count_none : (word : List ℕ) → long_of word ≡ None → None ≡ count_of word
unfolding count_of
count_none word is = sym (ap (option_map pos) is)

pub int_found : (word : List ℕ) (z : ℤ) → FitsSigned w32 z → signed_digits_value 10 word ≡ z
    → signed_decimal z ≡ word → int_of word ≡ Some z
unfolding int_of
int_found word z fits value is =
    both (is_i32 (signed_digits_value 10 word))
    (bytes_eq (signed_decimal (signed_digits_value 10 word)) word)
    (Some (signed_digits_value 10 word)) None
    (rw value (is_i32_from_fits z fits))
    ((bytes_eq-Decides (signed_decimal (signed_digits_value 10 word)) word).1
    (ap signed_decimal value ∙ is))
    ∙ ap Some value

pub int_none : (word : List ℕ) → ((z : ℤ) → FitsSigned w32 z → signed_decimal z ≡ word → ⊥) → int_of word ≡ None
unfolding int_of
int_none word none =
    not_both (is_i32 (signed_digits_value 10 word))
    (bytes_eq (signed_decimal (signed_digits_value 10 word)) word)
    (Some (signed_digits_value 10 word)) None
    (λ small same. none (signed_digits_value 10 word) (fits_from_is_i32 _ small)
    ((bytes_eq-Decides (signed_decimal (signed_digits_value 10 word)) word).0 same))
