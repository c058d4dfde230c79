-- What is written of a value is read as that value.
use Rattle.std.proofs.Common.{◌≡◌, ℕ, zero, suc, ◌+◌, ◌-◌, ◌/◌, ◌%◌, ◌^◌, ◌<◌, ◌≤◌, ◌==◌, Bool, true, false, cond, not, ◌&&◌, List, [], ◌∷◌, length, drop, get_or, Option, Some, None, option_and_then, refl, sym, ap, subst, ◌∙◌, nat_lt, nat_le, bytes_eq, slice_get, arith, ℤ, pos, negsuc, neg_ℤ}
use Rattle.std.proofs.Math.Bool.{and-false}
use Rattle.std.specs.Prelude.{unsigned_abs}
use Rattle.std.specs.Option.{unwrap_or}
use Rattle.std.specs.Result.{result_ok}
use Rattle.std.specs.Int.{w32, w64, to_be_bytes}
use Rattle.std.specs.Fmt.{decimal, signed_decimal}
use Rattle.std.specs.Str.Parse.{AllDigits, digits_value, signed_digits_value}
use Rattle.std.proofs.lemmas.Bool.{false≢true, true≢false, ne_eqb}
use Rattle.std.proofs.lemmas.Bool.Decides.{nat_tests, Decides-eqb}
use Rattle.std.proofs.lemmas.Fmt.{decimal_is_IsNumeral}
use Rattle.std.proofs.lemmas.Nat.{from_be_bytes-to_be_bytes_4, from_be_bytes-to_be_bytes_8}
use Rattle.std.proofs.lemmas.Slice.Eq.{bytes_eq-Decides}
use Rattle.std.proofs.lemmas.Str.Parse.{digit_from_value}
use Rattle.hex.proofs.HexLemmas.{decode_of-encode_upper}
use Rattle.kmip_tags.specs.Table.{first_tag, names}
use Rattle.kmip_wire.specs.Bytes.{AreBytes}
use Rattle.kmip_encodings.specs.Words.{words, tag_word, named_from, tag_named}
use Rattle.kmip_encodings.specs.Names.{enumeration_name}
use Rattle.kmip_encodings.specs.Dates.{civil_of, civil_text, date_number}
use Rattle.kmip_encodings.specs.declared.date.Civil.{Civil}
use Rattle.kmip_encodings.specs.Texts.{hex_text, tag_text, enumeration_text, date_text, is_number}
use Rattle.kmip_encodings.specs.Reading.{has_mark, hex_bytes, hex_or, tag_of_bytes, word_of_bytes, long_of_bytes, tag_of_text, enumeration_of_text, date_of_text, whole_number}
use Rattle.kmip_encodings.proofs.TheLines.{number_of_name, name_plain}

-- ---- `0x` and digits

hex_marked : (b : List ℕ) → has_mark (hex_text b) ≡ true
hex_marked b = grind (arith, nat_tests)

pub hex_back : (b : List ℕ) → AreBytes b → hex_bytes (hex_text b) ≡ Some b
hex_back b h = rw (hex_marked b) (ap result_ok (decode_of-encode_upper b h))

pub marked_back : (b : List ℕ) (number : List ℕ → Option ℕ) (other : Option ℕ) → AreBytes b
    → hex_or (hex_text b) number other ≡ number b
marked_back b number other h =
    ap (λ m. cond m (option_and_then number (hex_bytes (hex_text b))) other) (hex_marked b)
    ∙ ap (option_and_then number) (hex_back b h)

pub unmarked : (s : List ℕ) → (get_or s 0 0 == 48) ≡ false → has_mark s ≡ false
unmarked s h = rw h (and-false (nat_le 2 (length s)))

pub four_are_bytes : (n : ℕ) → AreBytes (to_be_bytes w32 n)
four_are_bytes n zero = omega arith
four_are_bytes n (suc zero) = omega arith
four_are_bytes n (suc (suc zero)) = omega arith
four_are_bytes n (suc (suc (suc zero))) = omega arith
four_are_bytes n (suc (suc (suc (suc i)))) = omega arith

eight_are_bytes : (n : ℕ) → AreBytes (to_be_bytes w64 n)
eight_are_bytes n zero = omega arith
eight_are_bytes n (suc zero) = omega arith
eight_are_bytes n (suc (suc zero)) = omega arith
eight_are_bytes n (suc (suc (suc zero))) = omega arith
eight_are_bytes n (suc (suc (suc (suc zero)))) = omega arith
eight_are_bytes n (suc (suc (suc (suc (suc zero))))) = omega arith
eight_are_bytes n (suc (suc (suc (suc (suc (suc zero)))))) = omega arith
eight_are_bytes n (suc (suc (suc (suc (suc (suc (suc zero))))))) = omega arith
eight_are_bytes n (suc (suc (suc (suc (suc (suc (suc (suc i)))))))) = omega arith

pub long_back : (n : ℕ) → n < 2 ^ 64 → option_and_then long_of_bytes (hex_bytes (hex_text (to_be_bytes w64 n))) ≡ Some n
long_back n h = ap (option_and_then long_of_bytes)
    (hex_back (to_be_bytes w64 n) (eight_are_bytes n)) ∙ ap Some (from_be_bytes-to_be_bytes_8 n h)

-- ---- tags

abbrev pub has_word : List ℕ → List (List ℕ) → Bool
has_word w [] = false
has_word w (x ∷ xs) = cond (bytes_eq x w) true (has_word w xs)

-- no two words are equal, and none begins with `0`
abbrev pub are_good : List (List ℕ) → Bool
are_good [] = true
are_good (w ∷ ws) = not (has_word w ws) && (not (get_or w 0 0 == 48) && are_good ws)

words_good : are_good words ≡ true
unfolding words names
words_good = refl

pub and_left : (a b : Bool) → (a && b) ≡ true → a ≡ true
and_left true b h = refl
and_left false b h = h

pub and_right : (a b : Bool) → (a && b) ≡ true → b ≡ true
and_right true b h = h
and_right false b h = absurd (false≢true h)

pub not_true : (b : Bool) → not b ≡ true → b ≡ false
not_true true h = absurd (false≢true h)
not_true false h = refl

same_text : (s : List ℕ) → bytes_eq s s ≡ true
same_text s = (bytes_eq-Decides s s).1 refl

word_stands : (ws : List (List ℕ)) (i : ℕ) (w : List ℕ) → slice_get ws i ≡ Some w → has_word w ws ≡ true
word_stands [] i w h = cc
word_stands (x ∷ ws) zero w h = let same : x ≡ w = cc in rw (same, same_text w) refl
word_stands (x ∷ ws) (suc i) w h =
    elim (bytes_eq x w) as (λ b. cond b true (has_word w ws) ≡ true) [
      | true ↦ refl
      | false ↦ word_stands ws i w h
    ]

pub word_found : (ws : List (List ℕ)) (tag i : ℕ) (w : List ℕ) → are_good ws ≡ true
    → slice_get ws i ≡ Some w → named_from tag ws w ≡ Some (tag + i)
word_found [] tag i w g h = cc
word_found (x ∷ ws) tag zero w g h =
    let same : x ≡ w = cc in
    let here : tag ≡ tag + 0 = omega arith in
    rw (same, same_text w) (ap Some here)
word_found (x ∷ ws) tag (suc i) w g h =
    let new = not_true (has_word x ws) (and_left (not (has_word x ws)) (not (get_or x 0 0 == 48) && are_good ws) g) in
    let rest = and_right (not (get_or x 0 0 == 48)) (are_good ws)
    (and_right (not (has_word x ws)) (not (get_or x 0 0 == 48) && are_good ws) g) in
    elim (bytes_eq x w) as (λ b. bytes_eq x w ≡ b
    → cond b (Some tag) (named_from (tag + 1) ws w) ≡ Some (tag + suc i)) [
      | true ↦ λ e.
          let same : x ≡ w = (bytes_eq-Decides x w).0 e in
          absurd (true≢false (sym (word_stands ws i w h) ∙ ap (λ v. has_word v ws) (sym same) ∙ new))
      | false ↦ λ e.
          let next : tag + 1 + i ≡ tag + suc i = omega arith in
          word_found ws (tag + 1) i w rest h ∙ ap Some next
    ] refl

pub word_plain : (ws : List (List ℕ)) (i : ℕ) (w : List ℕ) → are_good ws ≡ true
    → slice_get ws i ≡ Some w → (get_or w 0 0 == 48) ≡ false
word_plain [] i w g h = cc
word_plain (x ∷ ws) zero w g h =
    let same : x ≡ w = cc in
    subst (λ (v : List ℕ). (get_or v 0 0 == 48) ≡ false) same
    (not_true (get_or x 0 0 == 48)
    (and_left (not (get_or x 0 0 == 48)) (are_good ws)
    (and_right (not (has_word x ws)) (not (get_or x 0 0 == 48) && are_good ws) g)))
word_plain (x ∷ ws) (suc i) w g h =
    word_plain ws i w (and_right (not (get_or x 0 0 == 48)) (are_good ws)
    (and_right (not (has_word x ws)) (not (get_or x 0 0 == 48) && are_good ws) g)) h

pub word_at : (tag : ℕ) (w : List ℕ) → tag_word tag ≡ Some w → (first_tag ≤ tag)
    × (slice_get words (tag - first_tag) ≡ Some w)
word_at tag w h =
    elim (nat_lt tag first_tag) as (λ b. nat_lt tag first_tag ≡ b → cond b None
    (slice_get words (tag - first_tag)) ≡ Some w → (first_tag ≤ tag)
    × (slice_get words (tag - first_tag) ≡ Some w)) [
      | true ↦ λ e k. cc
      | false ↦ λ e k. (grind (arith, nat_tests), k)
    ] refl h

pub word_named : (tag : ℕ) (w : List ℕ) → tag_word tag ≡ Some w → tag_named w ≡ Some tag
unfolding tag_named
word_named tag w h =
    let at = word_at tag w h in
    let back : first_tag + (tag - first_tag) ≡ tag = omega (arith, at.0) in
    word_found words first_tag (tag - first_tag) w words_good at.1 ∙ ap Some back

named_back : (tag : ℕ) (w : List ℕ) → tag_word tag ≡ Some w → tag_of_text w ≡ Some tag
unfolding tag_of_text
named_back tag w h =
    rw (unmarked w (word_plain words (tag - first_tag) w words_good (word_at tag w h).1)) (word_named tag w h)

three : (tag : ℕ) → tag < 2 ^ 24 → tag_of_bytes (drop 1 (to_be_bytes w32 tag)) ≡ Some tag
three tag h = ap Some (omega (arith, from_be_bytes-to_be_bytes_4 tag (omega arith)))

three_are_bytes : (tag : ℕ) → AreBytes (drop 1 (to_be_bytes w32 tag))
three_are_bytes tag i = four_are_bytes tag (suc i)

pub number_back : (tag : ℕ) → tag < 2 ^ 24 → tag_of_text (hex_text (drop 1 (to_be_bytes w32 tag))) ≡ Some tag
unfolding tag_of_text
number_back tag h = marked_back (drop 1 (to_be_bytes w32 tag)) tag_of_bytes _ (three_are_bytes tag) ∙ three tag h

pub tag_back : (tag : ℕ) → tag < 2 ^ 24 → tag_of_text (tag_text tag) ≡ Some tag
tag_back tag h =
    elim (tag_word tag) as (λ o. tag_word tag ≡ o
    → tag_of_text (unwrap_or o (hex_text (drop 1 (to_be_bytes w32 tag)))) ≡ Some tag) [
      | Some w ↦ λ e. named_back tag w e
      | None ↦ λ e. number_back tag h
    ] refl

-- ---- enumerations

entry_back : (tag n : ℕ) (w : List ℕ) → enumeration_name tag n ≡ Some w → enumeration_of_text tag w ≡ Some n
unfolding enumeration_of_text
entry_back tag n w h = rw (unmarked w (name_plain tag n w h)) (number_of_name tag n w h)

digits_back : (tag n : ℕ) → n < 2 ^ 32 → enumeration_of_text tag (hex_text (to_be_bytes w32 n)) ≡ Some n
unfolding enumeration_of_text
digits_back tag n h = marked_back (to_be_bytes w32 n) word_of_bytes _ (four_are_bytes n)
    ∙ ap Some (from_be_bytes-to_be_bytes_4 n h)

pub enumeration_back : (tag n : ℕ) → n < 2 ^ 32 → enumeration_of_text tag (enumeration_text tag n) ≡ Some n
enumeration_back tag n h =
    elim (enumeration_name tag n)
    as (λ o. enumeration_name tag n ≡ o
    → enumeration_of_text tag (unwrap_or o (hex_text (to_be_bytes w32 n))) ≡ Some n) [
      | Some w ↦ λ e. entry_back tag n w e
      | None ↦ λ e. digits_back tag n h
    ] refl

-- ---- dates

pub is_that : (o : Option ℕ) (n : ℕ) → is_number o n ≡ true → o ≡ Some n
is_that None n h = absurd (false≢true h)
is_that (Some m) n h = ap Some ((Decides-eqb m n).0 h)

digit_no_x : (m : ℕ) → (48 + m % 10 == 120) ≡ false
digit_no_x m = ne_eqb (48 + m % 10) 120 (λ e. omega arith)

civil_unmarked : (c : Civil) → has_mark (civil_text c) ≡ false
civil_unmarked c = rw (digit_no_x (c.year / 100)) (simp and-false)

pub date_back : (n : ℕ) → n < 2 ^ 64 → date_of_text (date_text n) ≡ Some n
unfolding date_of_text date_text
date_back n h =
    let text = civil_text (civil_of n) in
    elim (is_number (date_number text) n) as
    (λ b. is_number (date_number text) n ≡ b
    → hex_or (cond b text (hex_text (to_be_bytes w64 n))) long_of_bytes
    (date_number (cond b text (hex_text (to_be_bytes w64 n)))) ≡ Some n) [
      | true ↦ λ e. rw (civil_unmarked (civil_of n)) (is_that (date_number text) n e)
      | false ↦ λ e. marked_back (to_be_bytes w64 n) long_of_bytes _ (eight_are_bytes n)
          ∙ ap Some (from_be_bytes-to_be_bytes_8 n h)
    ] refl

-- ---- numbers

plain_digits : (ds : List ℕ) → AllDigits 10 ds → 0 < length ds → signed_digits_value 10 ds ≡ pos (digits_value 10 ds)
plain_digits [] d h = absurd (omega arith)
plain_digits (c ∷ cs) d h =
    let digit = digit_from_value c d.0 in
    rw (ne_eqb c 45 (λ e. omega arith), ne_eqb c 43 (λ e. omega arith)) refl

signed_back : (z : ℤ) → unsigned_abs z < 2 ^ 53 → signed_digits_value 10 (signed_decimal z) ≡ z
signed_back (pos n) h =
    let k = decimal_is_IsNumeral n (omega arith) in
    plain_digits (decimal n) k.0.1 k.0.0 ∙ ap pos k.1
signed_back (negsuc n) h =
    let k = decimal_is_IsNumeral (suc n) (omega arith) in
    ap (λ m. neg_ℤ (pos m)) k.1

pub whole_back : (z : ℤ) → unsigned_abs z < 2 ^ 53 → whole_number (signed_decimal z) ≡ Some z
unfolding whole_number
whole_back z h =
    let small : nat_lt (unsigned_abs z) (2 ^ 53) ≡ true = grind (arith, nat_tests) in
    rw (signed_back z h, small, same_text (signed_decimal z)) refl
