-- No field of a listing holds a tab or a line feed.
use Rattle.std.proofs.Common.{◌≡◌, refl, sym, ap, ◌∙◌, arith, ℕ, zero, suc, ◌+◌, ◌-◌, ◌/◌, ◌%◌, ◌≤◌, nat_le, ◌==◌, ◌&&◌, not, nat_lt, Bool, true, false, cond, ℤ, pos, negsuc, List, [], ◌∷◌, ◌++◌, Option, Some, None, codes}
use Rattle.std.proofs.lemmas.Bool.{false≢true}
use Rattle.std.proofs.lemmas.Bool.Decides.{nat_tests}
use Rattle.std.specs.List.{All, list_all, slice_get, slice_index, join_by}
use Rattle.std.specs.Prelude.{bit_and, bit_xor, flat_map}
use Rattle.std.specs.Fmt.{digits, digits_onto, digit_glyph, decimal, signed_decimal}
use Rattle.std.specs.Int.{w32, w64, to_be_bytes, cast_signed, cast_unsigned}
use lib.Utf8.{next}
use Rattle.std.specs.Char.{encode_utf8}
use Rattle.std.specs.Str.{chars}
use Rattle.hex.specs.Hex.{encode_with, encode_upper, upper_digits}
use Rattle.std.proofs.lemmas.List.Elements.{All-nil, All-cons}
use Rattle.kmip_wire.specs.declared.kind.Kind.{Kind}
use Rattle.kmip_wire.specs.declared.kind.Kind.TheVariants.{Structure, Integer, LongInteger, BigInteger, Enumeration, Boolean, TextString, ByteString, DateTime, Interval}
use Rattle.kmip_wire.specs.Tree.{Scalar, integer, long_integer, big_integer, enumeration, boolean, text_string, byte_string, date_time, interval}
use Rattle.kmip_wire.specs.Names.{kind_name}
use Rattle.kmip_tags.specs.Tags as tags
use Rattle.kmip_tags.specs.Table.{first_tag, names}
use Rattle.kmip_tags.specs.Names.{name_of}
use Rattle.kmip_diag.specs.Lines.{name_text}
use Rattle.kmip_encodings.specs.Lines.{Line, lines}
use Rattle.kmip_encodings.specs.Names.{name_in, enumeration_name}
use Rattle.kmip_encodings.specs.Masks.{Bit, cryptographic_usage_bits, storage_status_bits, is_mask, mask_bits}
use Rattle.kmip_encodings.specs.Texts.{hex_text, mask_parts, bits_text, mask_text}
use Rattle.kmip_web.specs.Listing.{escaped_char, escaped, flag_text, named, value_text}
use Rattle.kmip_web.specs.Input.{is_feed}
use Rattle.kmip_web.specs.Split.{is_tab}

abbrev pub fits : ℕ → Bool
fits c = not (is_tab c) && not (is_feed c)

abbrev pub Fits : List ℕ → Type 0
Fits text = list_all fits text ≡ true

pub both : (a b : Bool) → a ≡ true → b ≡ true → (a && b) ≡ true
both true b h k = k
both false b h k = h

pub first : (a b : Bool) → (a && b) ≡ true → a ≡ true
first true b h = refl
first false b h = h

pub second : (a b : Bool) → (a && b) ≡ true → b ≡ true
second true b h = h
second false b h = absurd (false≢true h)

pub above : (c : ℕ) → 11 ≤ c → fits c ≡ true
above c h = grind (arith, nat_tests)

pub append : (a b : List ℕ) → Fits a → Fits b → Fits (a ++ b)
append [] b h k = k
append (c ∷ a) b h k = both (fits c) (list_all fits (a ++ b)) (first (fits c) (list_all fits a) h)
    (append a b (second (fits c) (list_all fits a) h) k)

glyph : (upper : Bool) (d : ℕ) → fits (digit_glyph upper d) ≡ true
glyph upper d = above (digit_glyph upper d) (grind (arith, nat_tests))

if_fits : (b : Bool) (x y : List ℕ) → Fits x → Fits y → Fits (cond b x y)
if_fits true x y h k = h
if_fits false x y h k = k

onto : (k base : ℕ) (upper : Bool) (n : ℕ) (acc : List ℕ) → Fits acc → Fits (digits_onto k base upper n acc)
onto zero base upper n acc h = h
onto (suc k) base upper n acc h =
    let g = digit_glyph upper (n % base) in
    let more : Fits (g ∷ acc) = both (fits g) (list_all fits acc) (glyph upper (n % base)) h in
    if_fits (n / base == 0) (g ∷ acc) (digits_onto k base upper (n / base) (g ∷ acc)) more
    (onto k base upper (n / base) (g ∷ acc) more)

pub digits_fit : (base : ℕ) (upper : Bool) (n : ℕ) → Fits (digits base upper n)
unfolding digits
digits_fit base upper n = onto 64 base upper n [] refl

signed_fit : (z : ℤ) → Fits (signed_decimal z)
signed_fit (pos n) = digits_fit 10 false n
signed_fit (negsuc n) = both (fits 45) (list_all fits (decimal (suc n))) (above 45 (omega arith)) (digits_fit 10 false (suc n))

-- ---- bytes and texts

at_fits : (table : List ℕ) (i : ℕ) → Fits table → fits (slice_index table i) ≡ true
at_fits [] i h = refl
at_fits (c ∷ table) zero h = first (fits c) (list_all fits table) h
at_fits (c ∷ table) (suc i) h = at_fits table i (second (fits c) (list_all fits table) h)

pub hex_fits : (bytes : List ℕ) → Fits (encode_upper bytes)
unfolding encode_with
hex_fits [] = refl
hex_fits (b ∷ bytes) =
    both (fits (slice_index upper_digits (b / 16))) (fits (slice_index upper_digits (b % 16)) && list_all fits (encode_upper bytes))
    (at_fits upper_digits (b / 16) refl)
    (both (fits (slice_index upper_digits (b % 16))) (list_all fits (encode_upper bytes))
    (at_fits upper_digits (b % 16) refl) (hex_fits bytes))

one : (c : ℕ) → 11 ≤ c → Fits (c ∷ [])
one c h = both (fits c) true (above c h) refl

more : (c : ℕ) (cs : List ℕ) → 11 ≤ c → Fits cs → Fits (c ∷ cs)
more c cs h k = both (fits c) (list_all fits cs) (above c h) k

two : (a b : ℕ) → 11 ≤ a → 11 ≤ b → Fits (a ∷ b ∷ [])
two a b h k = more a (b ∷ []) h (one b k)

three : (a b c : ℕ) → 11 ≤ a → 11 ≤ b → 11 ≤ c → Fits (a ∷ b ∷ c ∷ [])
three a b c h k l = more a (b ∷ c ∷ []) h (two b c k l)

follows : (c : ℕ) → 11 ≤ next c
follows c = omega arith

utf8_fits : (c : ℕ) → 11 ≤ c → Fits (encode_utf8 c)
unfolding encode_utf8
utf8_fits c h =
    let n : 11 ≤ next c = follows c in
    let o : 11 ≤ next (c / 64) = follows (c / 64) in
    let p : 11 ≤ next (c / 4096) = follows (c / 4096) in
    let x = 192 + c / 64 in let y = 224 + c / 4096 in let z = 240 + c / 262144 in
    let fx : 11 ≤ 192 + c / 64 = omega arith in
    let fy : 11 ≤ 224 + c / 4096 = omega arith in
    let fz : 11 ≤ 240 + c / 262144 = omega arith in
    if_fits (nat_lt c 128) (c ∷ []) _ (one c h)
    (if_fits (nat_lt c 2048) (x ∷ next c ∷ []) _ (two x (next c) fx n)
    (if_fits (nat_lt c 65536) (y ∷ next (c / 64) ∷ next c ∷ []) (z ∷ next (c / 4096) ∷ next (c / 64) ∷ next c ∷ [])
    (three y (next (c / 64)) (next c) fy o n)
    (more z (next (c / 4096) ∷ next (c / 64) ∷ next c ∷ []) fz (three (next (c / 4096)) (next (c / 64)) (next c) p o n))))

escaped_hex : (c : ℕ) → Fits (codes "\\" ++ encode_upper (c ∷ []))
escaped_hex c = append (codes "\\") (encode_upper (c ∷ [])) (one 92 (omega arith)) (hex_fits (c ∷ []))

char_fits : (c : ℕ) → Fits (escaped_char c)
char_fits c = by (nat_le 32 c) refl
  where
    by : (b : Bool) → nat_le 32 c ≡ b → Fits (cond (b && (not (c == 92) && not (c == 127))) (encode_utf8 c) (codes "\\" ++ encode_upper (c ∷ [])))
    by true e = if_fits (not (c == 92) && not (c == 127)) (encode_utf8 c) _ (utf8_fits c (grind (arith, nat_tests))) (escaped_hex c)
    by false e = escaped_hex c

text_fits : (cs : List ℕ) → Fits (escaped cs)
text_fits [] = refl
text_fits (c ∷ cs) = append (escaped_char c) (escaped cs) (char_fits c) (text_fits cs)

-- ---- names

all_names_fit : list_all (λ name. list_all fits name) names ≡ true
unfolding names
all_names_fit = refl

all_lines_fit : list_all (λ line. list_all fits line.1.1) lines ≡ true
unfolding lines
all_lines_fit = refl

nth_fits : (all : List (List ℕ)) (i : ℕ) → list_all (λ name. list_all fits name) all ≡ true
    → Fits (name_text (slice_get all i))
nth_fits [] i h = refl
nth_fits (name ∷ all) zero h = first (list_all fits name) (list_all (λ n. list_all fits n) all) h
nth_fits (name ∷ all) (suc i) h = nth_fits all i (second (list_all fits name) (list_all (λ n. list_all fits n) all) h)

unknown_fits : Fits (codes "Unknown")
unknown_fits = refl

pub name_fits : (tag : ℕ) → Fits (name_text (name_of tag))
name_fits tag = by (nat_lt tag first_tag)
  where
    by : (b : Bool) → Fits (name_text (cond b None (slice_get names (tag - first_tag))))
    by true = unknown_fits
    by false = nth_fits names (tag - first_tag) all_names_fit

pub kind_fits : (kind : Kind) → Fits (kind_name kind)
kind_fits Structure = refl
kind_fits Integer = refl
kind_fits LongInteger = refl
kind_fits BigInteger = refl
kind_fits Enumeration = refl
kind_fits Boolean = refl
kind_fits TextString = refl
kind_fits ByteString = refl
kind_fits DateTime = refl
kind_fits Interval = refl

spaced : (name : List ℕ) → Fits name → Fits (codes " " ++ name)
spaced name h = append (codes " ") name (one 32 (omega arith)) h

picked : (b : Bool) (name : List ℕ) (other : Option (List ℕ)) → Fits name → Fits (named other)
    → Fits (named (cond b (Some name) other))
picked true name other h k = spaced name h
picked false name other h k = k

in_lines : (ls : List Line) (tag number : ℕ) → list_all (λ line. list_all fits line.1.1) ls ≡ true
    → Fits (named (name_in ls tag number))
in_lines [] tag number h = refl
in_lines (l ∷ ls) tag number h =
    picked ((l.0 == tag) && (l.1.0 == number)) l.1.1 (name_in ls tag number)
    (first (list_all fits l.1.1) (list_all (λ line. list_all fits line.1.1) ls) h)
    (in_lines ls tag number (second (list_all fits l.1.1) (list_all (λ line. list_all fits line.1.1) ls) h))

number_fits : (tag number : ℕ) → Fits (named (enumeration_name tag number))
unfolding enumeration_name
number_fits tag number = in_lines lines tag number all_lines_fit

-- ---- masks

zero_x : Fits (codes "0x")
zero_x = refl

usage_fits : list_all (λ bit. list_all fits bit.1) cryptographic_usage_bits ≡ true
unfolding cryptographic_usage_bits
usage_fits = refl

storage_fits : list_all (λ bit. list_all fits bit.1) storage_status_bits ≡ true
unfolding storage_status_bits
storage_fits = refl

bits_fit : (tag : ℕ) → list_all (λ bit. list_all fits bit.1) (mask_bits tag) ≡ true
bits_fit tag = by (tag == tags.CRYPTOGRAPHIC_USAGE_MASK) (tag == tags.STORAGE_STATUS_MASK)
  where
    by : (a b : Bool) → list_all (λ bit. list_all fits bit.1) (cond a cryptographic_usage_bits (cond b storage_status_bits [])) ≡ true
    by true b = usage_fits
    by false true = storage_fits
    by false false = refl

left_fits : (n : ℕ) → Fits (hex_text (to_be_bytes w32 n))
left_fits n = append (codes "0x") (encode_upper (to_be_bytes w32 n)) zero_x (hex_fits (to_be_bytes w32 n))

abbrev AllFit : List (List ℕ) → Type 0
AllFit parts = list_all (λ part. list_all fits part) parts ≡ true

all_if : (b : Bool) (xs ys : List (List ℕ)) → AllFit xs → AllFit ys → AllFit (cond b xs ys)
all_if true xs ys h k = h
all_if false xs ys h k = k

parts_fit : (bits : List Bit) (n : ℕ) → list_all (λ bit. list_all fits bit.1) bits ≡ true
    → AllFit (mask_parts bits n)
parts_fit [] n h =
    let left = hex_text (to_be_bytes w32 n) in
    all_if (n == 0) [] (left ∷ []) refl (both (list_all fits left) true (left_fits n) refl)
parts_fit (bit ∷ bits) n h =
    let fit : list_all fits bit.1 ≡ true = first (list_all fits bit.1) (list_all (λ b. list_all fits b.1) bits) h in
    let later = second (list_all fits bit.1) (list_all (λ b. list_all fits b.1) bits) h in
    let rest = mask_parts bits (bit_xor n bit.0) in
    all_if (bit_and n bit.0 == bit.0) (bit.1 ∷ rest) (mask_parts bits n)
    (both (list_all fits bit.1) (list_all (λ part. list_all fits part) rest) fit
    (parts_fit bits (bit_xor n bit.0) later))
    (parts_fit bits n later)

more_fit : (parts : List (List ℕ)) → AllFit parts → Fits (flat_map (λ part. codes " " ++ part) parts)
more_fit [] h = refl
more_fit (part ∷ parts) h =
    append (codes " " ++ part) (flat_map (λ p. codes " " ++ p) parts)
    (spaced part (first (list_all fits part) (list_all (λ p. list_all fits p) parts) h))
    (more_fit parts (second (list_all fits part) (list_all (λ p. list_all fits p) parts) h))

joined_fit : (parts : List (List ℕ)) → AllFit parts → Fits (join_by (λ s. s) (codes " ") parts)
joined_fit [] h = refl
joined_fit (part ∷ parts) h =
    append part (flat_map (λ p. codes " " ++ p) parts)
    (first (list_all fits part) (list_all (λ p. list_all fits p) parts) h)
    (more_fit parts (second (list_all fits part) (list_all (λ p. list_all fits p) parts) h))

mask_fits : (tag : ℕ) (z : ℤ) → Fits (named (mask_text (codes " ") tag z))
unfolding mask_text
mask_fits tag z = by (is_mask tag) (cast_unsigned w32 z == 0)
  where
    by : (a b : Bool) → Fits (named (cond a (cond b None (Some (bits_text (codes " ") tag (cast_unsigned w32 z)))) None))
    by true true = refl
    by true false = spaced (bits_text (codes " ") tag (cast_unsigned w32 z))
        (joined_fit (mask_parts (mask_bits tag) (cast_unsigned w32 z))
        (parts_fit (mask_bits tag) (cast_unsigned w32 z) (bits_fit tag)))
    by false b = refl

-- ---- values

flag_fits : (flag : Bool) → Fits (flag_text flag)
flag_fits true = refl
flag_fits false = refl

pub value_fits : (tag : ℕ) (s : Scalar) → Fits (value_text tag s)
value_fits tag (integer z) = append (signed_decimal z) (named (mask_text (codes " ") tag z)) (signed_fit z)
    (mask_fits tag z)
value_fits tag (long_integer z) = signed_fit z
value_fits tag (big_integer b) = hex_fits b
value_fits tag (enumeration n) = append (codes "0x") (digits 16 true n ++ named (enumeration_name tag n)) zero_x
    (append (digits 16 true n) (named (enumeration_name tag n)) (digits_fit 16 true n) (number_fits tag n))
value_fits tag (boolean b) = flag_fits b
value_fits tag (text_string b) = text_fits (chars b)
value_fits tag (byte_string b) = hex_fits b
value_fits tag (date_time n) = signed_fit (cast_signed w64 n)
value_fits tag (interval n) = digits_fit 10 false n

-- ---- parts

pub no_tab : (text : List ℕ) → Fits text → All (λ c. is_tab c ≡ false) text
no_tab [] h = All-nil (λ c. is_tab c ≡ false)
no_tab (c ∷ text) h = All-cons (λ c. is_tab c ≡ false) c text
    (its (is_tab c) (is_feed c) (first (fits c) (list_all fits text) h)) (no_tab text (second (fits c) (list_all fits text) h))
  where
    its : (a b : Bool) → (not a && not b) ≡ true → a ≡ false
    its true b e = absurd (false≢true e)
    its false b e = refl

pub no_feed : (text : List ℕ) → Fits text → All (λ c. is_feed c ≡ false) text
no_feed [] h = All-nil (λ c. is_feed c ≡ false)
no_feed (c ∷ text) h = All-cons (λ c. is_feed c ≡ false) c text
    (its (is_tab c) (is_feed c) (first (fits c) (list_all fits text) h)) (no_feed text (second (fits c) (list_all fits text) h))
  where
    its : (a b : Bool) → (not a && not b) ≡ true → b ≡ false
    its true b e = absurd (false≢true e)
    its false true e = absurd (false≢true e)
    its false false e = refl
