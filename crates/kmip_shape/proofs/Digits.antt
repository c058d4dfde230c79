-- The digits of bytes, written two by two.
use Rattle.std.proofs.Common.{◌≡◌, ℕ, ◌+◌, ◌*◌, ◌/◌, ◌%◌, ◌<◌, ◌≤◌, List, [], ◌∷◌, ◌++◌, length, take, drop, slice_index, slice_set, flat_map, arith, append_assoc, append-nil}
use Rattle.std.proofs.lemmas.List.{drop_all, drop_more, take_more_set, length-set}
use Rattle.std.proofs.lemmas.Str.{IsAscii-append}
use Rattle.std.proofs.lemmas.Str.Ascii.{IsAscii-nil, IsAscii-cons}
use Rattle.std.specs.Str.{IsAscii}
use Rattle.kmip_shape.specs.Shown.{hex_byte, hex_digit}

take-two_writes : (xs : List ℕ) (o x y : ℕ) → o + 1 < length xs
    → take (o + 2) (slice_set (slice_set xs o x) (o + 1) y) ≡ take o xs ++ (x ∷ y ∷ [])
take-two_writes xs o x y fits =
    let len : length (slice_set xs o x) ≡ length xs = length-set xs o x in
    let two : o + 2 ≡ o + 1 + 1 = omega arith in
    let second = take_more_set (slice_set xs o x) (o + 1) y (omega (arith, len)) in
    let first = take_more_set xs o x (omega arith) in
    rw (two, second, first) (append_assoc (take o xs) (x ∷ []) (y ∷ []))

-- one byte more is written
pub digits_step : (input output : List ℕ) (i x y : ℕ) → i < length input → 2 * i + 1 < length output
    → x ≡ hex_digit (slice_index input i / 16) → y ≡ hex_digit (slice_index input i % 16)
    → take (2 * i) output ++ flat_map hex_byte (drop i input) ≡ flat_map hex_byte input
    → take (2 * (i + 1)) (slice_set (slice_set output (2 * i) x) (2 * i + 1) y)
    ++ flat_map hex_byte (drop (i + 1) input) ≡ flat_map hex_byte input
digits_step input output i x y h fits ex ey inv =
    let two : 2 * (i + 1) ≡ 2 * i + 2 = omega arith in
    let front = take-two_writes output (2 * i) x y fits in
    let rest = drop_more input i 0 h in
    rw (two, front, append_assoc, ex, ey) (rw rest at inv)

pub digits_done : (input output : List ℕ) (i : ℕ) → length input ≤ i
    → take (2 * i) output ++ flat_map hex_byte (drop i input) ≡ flat_map hex_byte input
    → take (2 * i) output ≡ flat_map hex_byte input
digits_done input output i h inv =
    let d = drop_all i input h in
    rw (d, append-nil) at inv

pub ascii_step : (output : List ℕ) (i x y : ℕ) → 2 * i + 1 < length output → x < 128 → y < 128
    → IsAscii (take (2 * i) output) → IsAscii
    (take (2 * (i + 1)) (slice_set (slice_set output (2 * i) x) (2 * i + 1) y))
ascii_step output i x y fits small little before =
    let two : 2 * (i + 1) ≡ 2 * i + 2 = omega arith in
    let front = take-two_writes output (2 * i) x y fits in
    rw (two, front) (IsAscii-append (take (2 * i) output) (x ∷ y ∷ []) before
    (IsAscii-cons x (y ∷ []) small (IsAscii-cons y [] little IsAscii-nil)))
