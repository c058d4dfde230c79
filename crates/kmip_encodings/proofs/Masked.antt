-- A mask that is written by names is read as the same number.
use Rattle.std.proofs.Common.{◌≡◌, ℕ, zero, suc, ◌+◌, ◌*◌, ◌/◌, ◌%◌, ◌^◌, ◌<◌, ◌≤◌, ◌==◌, Bool, true, false, cond, not, ◌&&◌, List, [], ◌∷◌, ◌++◌, codes, length, drop, map, get_or, Option, Some, None, refl, sym, ap, ap₂, subst, ◌∙◌, append_assoc, append-nil, add-one, drop-cons, arith, ℤ, Bor, bit_and, bit_or, bit_xor, flat_map, FitsSigned, All}
use Rattle.std.specs.Prelude.{option_and_then}
use Rattle.std.specs.List.{slice_split, join_by}
use Rattle.std.specs.Int.{w32, to_be_bytes, bit_at, cast_unsigned}
use Rattle.std.specs.Int.Bits.{xor_add_and}
use Rattle.std.proofs.lemmas.Bool.{ne_eqb}
use Rattle.std.proofs.lemmas.Bool.Decides.{Decides-eqb}
use Rattle.std.proofs.lemmas.Int.{ints}
use Rattle.std.proofs.lemmas.List.{map-append, at_drop_all}
use Rattle.std.proofs.lemmas.List.Elements.{All-nil, All-cons}
use Rattle.std.proofs.lemmas.List.Splits.{slice_split_none, slice_split_at}
use Rattle.std.proofs.lemmas.Nat.{from_be_bytes-to_be_bytes_4}
use Rattle.std.proofs.lemmas.Nat.Bits.{bit_at_and, bit_at_or, bit_at_xor, bit_at-lt, same_from_bits}
use Rattle.std.proofs.lemmas.Option.{same_Some, none-some}
use Rattle.hex.specs.Hex.{encode_upper, encode_with, upper_digits}
use Rattle.kmip_tags.specs.Tags.{CRYPTOGRAPHIC_USAGE_MASK, STORAGE_STATUS_MASK}
use Rattle.kmip_encodings.specs.Masks.{Bit, cryptographic_usage_bits, storage_status_bits, is_mask, mask_bits, mask_bit}
use Rattle.kmip_encodings.specs.Texts.{hex_text, is_number, mask_parts, bits_text, text_of_bits, mask_text}
use Rattle.kmip_encodings.specs.Reading.{word_of_bytes, hex_bytes, part_of_text, with_part, bits_of_parts, mask_of_text}
use Rattle.kmip_encodings.proofs.Back.{marked_back, unmarked, four_are_bytes, and_left, and_right, not_true, is_that}

nil_cons : {x : List ℕ} {xs : List (List ℕ)} → [] ≡ x ∷ xs → ⊥
nil_cons e = cc

-- ---- parts are cut where they were joined

abbrev no_bar : List ℕ → Bool
no_bar [] = true
no_bar (c ∷ s) = not (c == 124) && no_bar s

all_no_bar : (s : List ℕ) → no_bar s ≡ true → All (λ c. (c == 124) ≡ false) s
all_no_bar [] h = All-nil (λ c. (c == 124) ≡ false)
all_no_bar (c ∷ s) h = All-cons (λ x. (x == 124) ≡ false) c s
    (not_true (c == 124) (and_left (not (c == 124)) (no_bar s) h))
    (all_no_bar s (and_right (not (c == 124)) (no_bar s) h))

abbrev no_bars : List (List ℕ) → Bool
no_bars [] = true
no_bars (part ∷ parts) = no_bar part && no_bars parts

join_cut : (part : List ℕ) (parts : List (List ℕ)) → no_bar part ≡ true → no_bars parts ≡ true
    → slice_split (λ c. c == 124) (part ++ flat_map (λ y. codes "|" ++ y) parts) ≡ part ∷ parts
join_cut part [] h hs =
    ap (slice_split (λ c. c == 124)) (append-nil part) ∙ slice_split_none (λ c. c == 124) part (all_no_bar part h)
join_cut part (next ∷ parts) h hs =
    slice_split_at (λ c. c == 124) part 124 (next ++ flat_map (λ y. codes "|" ++ y) parts) (all_no_bar part h) refl
    ∙ ap (λ ps. part ∷ ps)
    (join_cut next parts (and_left (no_bar next) (no_bars parts) hs) (and_right (no_bar next) (no_bars parts) hs))

parts_cut : (parts : List (List ℕ)) → no_bars parts ≡ true → (parts ≡ [] → ⊥)
    → slice_split (λ c. c == 124) (join_by (λ s. s) (codes "|") parts) ≡ parts
parts_cut [] h some = absurd (some refl)
parts_cut (part ∷ parts) h some =
    join_cut part parts (and_left (no_bar part) (no_bars parts) h) (and_right (no_bar part) (no_bars parts) h)

digit_no_bar : (digits : List ℕ) (i : ℕ) → no_bar digits ≡ true → (get_or digits i 0 == 124) ≡ false
digit_no_bar [] i h = refl
digit_no_bar (x ∷ xs) zero h = not_true (x == 124) (and_left (not (x == 124)) (no_bar xs) h)
digit_no_bar (x ∷ xs) (suc i) h = digit_no_bar xs i (and_right (not (x == 124)) (no_bar xs) h)

hex_no_bar : (b : List ℕ) → no_bar (encode_upper b) ≡ true
unfolding encode_with
hex_no_bar [] = refl
hex_no_bar (x ∷ xs) =
    rw (digit_no_bar upper_digits (x / 16) refl, digit_no_bar upper_digits (x % 16) refl) (hex_no_bar xs)

-- ---- each name is read as its bit

abbrev good_bit : ℕ → Bit → Bool
good_bit tag b = is_number (mask_bit tag b.1) b.0 && (not (get_or b.1 0 0 == 48) && no_bar b.1)

abbrev good_bits : ℕ → List Bit → Bool
good_bits tag [] = true
good_bits tag (b ∷ bs) = good_bit tag b && good_bits tag bs

usage_good : good_bits CRYPTOGRAPHIC_USAGE_MASK cryptographic_usage_bits ≡ true
unfolding cryptographic_usage_bits
usage_good = refl

storage_good : good_bits STORAGE_STATUS_MASK storage_status_bits ≡ true
unfolding storage_status_bits
storage_good = refl

bits_good : (tag : ℕ) → good_bits tag (mask_bits tag) ≡ true
bits_good tag =
    elim (tag == CRYPTOGRAPHIC_USAGE_MASK) as (λ b. (tag == CRYPTOGRAPHIC_USAGE_MASK) ≡ b
    → good_bits tag (cond b cryptographic_usage_bits
    (cond (tag == STORAGE_STATUS_MASK) storage_status_bits [])) ≡ true) [
      | true ↦ λ e. subst (λ (t : ℕ). good_bits t cryptographic_usage_bits ≡ true)
          (sym ((Decides-eqb tag CRYPTOGRAPHIC_USAGE_MASK).0 e)) usage_good
      | false ↦ λ e. elim (tag == STORAGE_STATUS_MASK) as (λ b. (tag == STORAGE_STATUS_MASK) ≡ b
          → good_bits tag (cond b storage_status_bits []) ≡ true) [
            | true ↦ λ f. subst (λ (t : ℕ). good_bits t storage_status_bits ≡ true)
                (sym ((Decides-eqb tag STORAGE_STATUS_MASK).0 f)) storage_good
            | false ↦ λ f. refl
          ] refl
    ] refl

name_back : (tag : ℕ) (b : Bit) → good_bit tag b ≡ true → part_of_text tag b.1 ≡ Some b.0
name_back tag b g =
    let found : Bool = is_number (mask_bit tag b.1) b.0 in
    let plain : Bool = not (get_or b.1 0 0 == 48) in
    ap (λ m. cond m (option_and_then word_of_bytes (hex_bytes b.1)) (mask_bit tag b.1))
    (unmarked b.1 (not_true (get_or b.1 0 0 == 48)
    (and_left plain (no_bar b.1) (and_right found (plain && no_bar b.1) g))))
    ∙ is_that (mask_bit tag b.1) b.0 (and_left found (plain && no_bar b.1) g)

name_no_bar : (tag : ℕ) (b : Bit) → good_bit tag b ≡ true → no_bar b.1 ≡ true
name_no_bar tag b g =
    let found : Bool = is_number (mask_bit tag b.1) b.0 in
    let plain : Bool = not (get_or b.1 0 0 == 48) in
    and_right plain (no_bar b.1) (and_right found (plain && no_bar b.1) g)

word_back : (tag n : ℕ) → n < 2 ^ 32 → part_of_text tag (hex_text (to_be_bytes w32 n)) ≡ Some n
word_back tag n h =
    marked_back (to_be_bytes w32 n) word_of_bytes (mask_bit tag (hex_text (to_be_bytes w32 n))) (four_are_bytes n)
    ∙ ap Some (from_be_bytes-to_be_bytes_4 n h)

-- ---- the bits together are the number

bit_back : (n b : ℕ) → bit_and n b ≡ b → bit_or (bit_xor n b) b ≡ n
bit_back n b h = same_from_bits (bit_or (bit_xor n b) b) n (λ i.
    omega (arith, bit_at_or (bit_xor n b) b i, bit_at_xor n b i, bit_at_and n b i, ap (λ m. bit_at m i) h, bit_at-lt n i, bit_at-lt b i))

without_bit : (n b : ℕ) → bit_and n b ≡ b → n < 2 ^ 32 → bit_xor n b < 2 ^ 32
without_bit n b h small = omega (arith, xor_add_and n b, h, small)

left_back : (tag n : ℕ) → n < 2 ^ 32 → bits_of_parts tag (mask_parts [] n) ≡ Some n
left_back tag n h =
    elim (n == 0) as (λ b. (n == 0) ≡ b
    → bits_of_parts tag (cond b [] (hex_text (to_be_bytes w32 n) ∷ [])) ≡ Some n) [
      | true ↦ λ e. ap Some (sym ((Decides-eqb n 0).0 e))
      | false ↦ λ e. ap (λ p. with_part p (Some 0)) (word_back tag n h)
    ] refl

parts_back : (tag : ℕ) (bits : List Bit) (n : ℕ) → good_bits tag bits ≡ true → n < 2 ^ 32
    → bits_of_parts tag (mask_parts bits n) ≡ Some n
parts_back tag [] n g h = left_back tag n h
parts_back tag (b ∷ bs) n g h =
    let rest = and_right (good_bit tag b) (good_bits tag bs) g in
    elim (bit_and n b.0 == b.0) as (λ t. (bit_and n b.0 == b.0) ≡ t
    → bits_of_parts tag (cond t (b.1 ∷ mask_parts bs (bit_xor n b.0)) (mask_parts bs n)) ≡ Some n) [
      | true ↦ λ e.
          let has = (Decides-eqb (bit_and n b.0) b.0).0 e in
          ap₂ with_part (name_back tag b (and_left (good_bit tag b) (good_bits tag bs) g))
          (parts_back tag bs (bit_xor n b.0) rest (without_bit n b.0 has h))
          ∙ ap Some (bit_back n b.0 has)
      | false ↦ λ e. parts_back tag bs n rest h
    ] refl

left_no_bars : (n : ℕ) → no_bars (mask_parts [] n) ≡ true
left_no_bars n =
    elim (n == 0) as (λ b. no_bars (cond b [] (hex_text (to_be_bytes w32 n) ∷ [])) ≡ true) [
      | true ↦ refl
      | false ↦ ap (λ b. b && true) (hex_no_bar (to_be_bytes w32 n))
    ]

parts_no_bars : (tag : ℕ) (bits : List Bit) (n : ℕ) → good_bits tag bits ≡ true → no_bars (mask_parts bits n) ≡ true
parts_no_bars tag [] n g = left_no_bars n
parts_no_bars tag (b ∷ bs) n g =
    let rest = and_right (good_bit tag b) (good_bits tag bs) g in
    elim (bit_and n b.0 == b.0) as (λ t.
    no_bars (cond t (b.1 ∷ mask_parts bs (bit_xor n b.0)) (mask_parts bs n)) ≡ true) [
      | true ↦ ap₂ (λ x y. x && y) (name_no_bar tag b (and_left (good_bit tag b) (good_bits tag bs) g))
          (parts_no_bars tag bs (bit_xor n b.0) rest)
      | false ↦ parts_no_bars tag bs n rest
    ]

-- a number other than 0 has parts
has_parts : (bits : List Bit) (n : ℕ) → (n == 0) ≡ false → mask_parts bits n ≡ [] → ⊥
has_parts [] n h e = absurd (nil_cons (sym e ∙ ap (λ b. cond b [] (hex_text (to_be_bytes w32 n) ∷ [])) h))
has_parts (b ∷ bs) n h e =
    elim (bit_and n b.0 == b.0) as (λ t.
    cond t (b.1 ∷ mask_parts bs (bit_xor n b.0)) (mask_parts bs n) ≡ [] → ⊥) [
      | true ↦ λ k. absurd (nil_cons (sym k))
      | false ↦ λ k. has_parts bs n h k
    ] e

unsigned_fits : (z : ℤ) → FitsSigned w32 z → cast_unsigned w32 z < 2 ^ 32
unsigned_fits z h = omega (arith, ints, h)

bits_back : (tag n : ℕ) (s : List ℕ) → n < 2 ^ 32 → text_of_bits (codes "|") tag n ≡ Some s
    → mask_of_text tag s ≡ Some n
unfolding mask_of_text
bits_back tag n s h =
    elim (n == 0) as (λ b. (n == 0) ≡ b → cond b None (Some (bits_text (codes "|") tag n)) ≡ Some s
    → bits_of_parts tag (slice_split (λ c. c == 124) s) ≡ Some n) [
      | true ↦ λ z e. absurd (none-some s e)
      | false ↦ λ z e.
          let parts : List (List ℕ) = mask_parts (mask_bits tag) n in
          ap (λ t. bits_of_parts tag (slice_split (λ c. c == 124) t)) (sym (same_Some _ s e))
          ∙ ap (bits_of_parts tag)
          (parts_cut parts (parts_no_bars tag (mask_bits tag) n (bits_good tag)) (has_parts (mask_bits tag) n z))
          ∙ parts_back tag (mask_bits tag) n (bits_good tag) h
    ] refl

pub mask_back : (tag : ℕ) (z : ℤ) (s : List ℕ) → FitsSigned w32 z → mask_text (codes "|") tag z ≡ Some s
    → mask_of_text tag s ≡ Some (cast_unsigned w32 z)
unfolding mask_text
mask_back tag z s h =
    elim (is_mask tag) as (λ b. cond b (text_of_bits (codes "|") tag (cast_unsigned w32 z)) None ≡ Some s
    → mask_of_text tag s ≡ Some (cast_unsigned w32 z)) [
      | true ↦ λ e. bits_back tag (cast_unsigned w32 z) s (unsigned_fits z h) e
      | false ↦ λ e. absurd (none-some s e)
    ]

-- ---- the parts, as they are found and joined

abbrev pub views : List (ℕ × Bor (List ℕ)) → List Bit
views bits = map (λ b. (b.0, b.1.now)) bits

abbrev pub texts : List (Bor (List ℕ)) → List (List ℕ)
texts parts = map (λ part. part.now) parts

rest_at : (bits : List (ℕ × Bor (List ℕ))) (i : ℕ) (d : ℕ × Bor (List ℕ)) → i < length bits
    → drop i bits ≡ get_or bits i d ∷ drop (i + 1) bits
rest_at bits i d h = rw (add-one, drop-cons bits i d h) refl

pub named_more : (bits : List (ℕ × Bor (List ℕ))) (i : ℕ) (d : ℕ × Bor (List ℕ)) (names pushed : List (Bor (List ℕ)))
    (rest : ℕ) (all : List (List ℕ)) → i < length bits
    → (bit_and rest (get_or bits i d).0 == (get_or bits i d).0) ≡ true
    → pushed ≡ names ++ (get_or bits i d).1 ∷ []
    → texts names ++ mask_parts (views (drop i bits)) rest ≡ all
    → texts pushed ++ mask_parts (views (drop (i + 1) bits)) (bit_xor rest (get_or bits i d).0) ≡ all
named_more bits i d names pushed rest all h has new p =
    let b = get_or bits i d in
    let later : List (List ℕ) = mask_parts (views (drop (i + 1) bits)) (bit_xor rest b.0) in
    ap (λ l. texts l ++ later) new
    ∙ ap (λ l. l ++ later) (map-append (λ part. part.now) names (b.1 ∷ []))
    ∙ append_assoc (texts names) (b.1.now ∷ []) later
    ∙ sym (ap (λ l. texts names ++ mask_parts (views l) rest) (rest_at bits i d h)
    ∙ ap (λ t. texts names ++ cond t (b.1.now ∷ later) (mask_parts (views (drop (i + 1) bits)) rest)) has)
    ∙ p

pub named_less : (bits : List (ℕ × Bor (List ℕ))) (i : ℕ) (d : ℕ × Bor (List ℕ)) (names : List (Bor (List ℕ)))
    (rest : ℕ) (all : List (List ℕ)) → i < length bits
    → (bit_and rest (get_or bits i d).0 == (get_or bits i d).0) ≡ false
    → texts names ++ mask_parts (views (drop i bits)) rest ≡ all
    → texts names ++ mask_parts (views (drop (i + 1) bits)) rest ≡ all
named_less bits i d names rest all h has p =
    let b = get_or bits i d in
    sym (ap (λ l. texts names ++ mask_parts (views l) rest) (rest_at bits i d h)
    ∙ ap (λ t. texts names ++ cond t (b.1.now ∷ mask_parts (views (drop (i + 1) bits)) (bit_xor rest b.0))
    (mask_parts (views (drop (i + 1) bits)) rest)) has)
    ∙ p

flat_texts : (separator : List ℕ) (parts : List (Bor (List ℕ)))
    → flat_map (λ (y : Bor (List ℕ)). separator ++ y.now) parts ≡ flat_map (λ y. separator ++ y) (texts parts)
flat_texts separator [] = refl
flat_texts separator (x ∷ xs) = ap (λ l. (separator ++ x.now) ++ l) (flat_texts separator xs)

pub joined_texts : (separator : List ℕ) (parts : List (Bor (List ℕ)))
    → join_by (λ (y : Bor (List ℕ)). y.now) separator parts ≡ join_by (λ s. s) separator (texts parts)
joined_texts separator [] = refl
joined_texts separator (x ∷ xs) = ap (λ l. x.now ++ l) (flat_texts separator xs)

pub named_done : (bits : List (ℕ × Bor (List ℕ))) (i : ℕ) (names : List (Bor (List ℕ))) (rest : ℕ)
    (all : List (List ℕ)) → length bits ≤ i → texts names ++ mask_parts (views (drop i bits)) rest ≡ all
    → texts names ++ mask_parts [] rest ≡ all
named_done bits i names rest all h p =
    sym (at_drop_all (λ l. texts names ++ mask_parts (views l) rest) bits i h) ∙ p

-- the text of the parts that were found, with no bits left
pub none_left : (separator : List ℕ) (tag n : ℕ) (bits : List (ℕ × Bor (List ℕ))) (names : List (Bor (List ℕ)))
    (rest : ℕ) (text : List ℕ) → views bits ≡ mask_bits tag → rest ≡ 0
    → texts names ++ mask_parts [] rest ≡ mask_parts (views bits) n
    → text ≡ join_by (λ (y : Bor (List ℕ)). y.now) separator names → text ≡ bits_text separator tag n
none_left separator tag n bits names rest text b z p t =
    t ∙ joined_texts separator names
    ∙ ap (join_by (λ s. s) separator)
    (sym (append-nil (texts names)) ∙ ap (λ r. texts names ++ mask_parts [] r) (sym z) ∙ p
    ∙ ap (λ l. mask_parts l n) b)

-- and with others, in hex
pub some_left : (separator : List ℕ) (tag n : ℕ) (bits : List (ℕ × Bor (List ℕ))) (names parts : List (Bor (List ℕ)))
    (rest : ℕ) (digits : Bor (List ℕ)) (text : List ℕ) → views bits ≡ mask_bits tag → (rest ≡ 0 → ⊥)
    → texts names ++ mask_parts [] rest ≡ mask_parts (views bits) n
    → digits.now ≡ hex_text (to_be_bytes w32 rest) → parts ≡ names ++ digits ∷ []
    → text ≡ join_by (λ (y : Bor (List ℕ)). y.now) separator parts → text ≡ bits_text separator tag n
some_left separator tag n bits names parts rest digits text b other p d all t =
    t ∙ joined_texts separator parts
    ∙ ap (join_by (λ s. s) separator)
    (ap texts all ∙ map-append (λ part. part.now) names (digits ∷ [])
    ∙ ap (λ h. texts names ++ h ∷ []) d
    ∙ ap (λ z. texts names ++ cond z [] (hex_text (to_be_bytes w32 rest) ∷ [])) (sym (ne_eqb rest 0 other))
    ∙ p ∙ ap (λ l. mask_parts l n) b)
