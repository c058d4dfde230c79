-- Texts as bytes: hex or base64, the marked lines of a log, or a hex dump of a followed stream.
use Rattle.std.specs.Prelude.{ℕ, ◌==◌, ◌&&◌, ◌||◌, Bool, false, List, [], ◌∷◌, ◌++◌, length, take, drop, slice_index, nat_lt, Option, Some, None, Result, Ok, Err, is_ok, if◌then◌else◌}
use Rattle.std.specs.List.{slice_split}
use Rattle.hex.specs.Hex.{decode_of}
use Rattle.hex.specs.declared.error.FromHexError.{FromHexError}
use Rattle.base64.specs.declared.decode.DecodeError.{DecodeError}
use Rattle.base64.specs.Engines.{standard}
use Rattle.base64.specs.GeneralPurpose as base64

-- a space, a tab, a carriage return, `:` and `,` stand between digits
abbrev pub is_gap : ℕ → Bool
is_gap c = (c == 32) || ((c == 9) || ((c == 13) || ((c == 58) || (c == 44))))

abbrev pub digit_of : ℕ → List ℕ
digit_of c = if is_gap c then [] else c ∷ []

abbrev pub without_gaps : List ℕ → List ℕ
without_gaps [] = []
without_gaps (c ∷ cs) = digit_of c ++ without_gaps cs

-- a line of a hex dump: an offset of eight hex digits, two spaces, and the digits of 16 bytes in 49
-- columns; what follows them is not read
abbrev pub is_dump : List ℕ → Bool
is_dump line =
    nat_lt 9 (length line) && ((slice_index line 8 == 32) && ((slice_index line 9 == 32)
    && is_ok (decode_of (take 8 line))))

abbrev pub dump_part : List ℕ → List ℕ
dump_part line = take 49 (drop 10 line)

abbrev pub begins_with_four_spaces : List ℕ → Bool
begins_with_four_spaces line =
    nat_lt 3 (length line) && ((slice_index line 0 == 32) && ((slice_index line 1 == 32)
    && ((slice_index line 2 == 32) && (slice_index line 3 == 32))))

-- a line without four spaces, or a tab, at its front; nothing where it has neither
abbrev pub unindented : List ℕ → List ℕ
unindented line =
    if begins_with_four_spaces line then drop 4 line
    else if nat_lt 0 (length line) && (slice_index line 0 == 9) then drop 1 line else []

-- whether a line begins with this byte and a space
abbrev pub is_marked : ℕ → List ℕ → Bool
is_marked mark line =
    nat_lt 1 (length line) && ((slice_index line 0 == mark) && (slice_index line 1 == 32))

-- which side a line is of, 0 sent, 1 received, 2 neither, and where its digits stand: after `> `
-- and `< `; in a hex dump, whose lines are indented on the side that answers; anywhere else
abbrev pub part_of : List ℕ → ℕ × List ℕ
part_of line =
    if is_marked 62 line then (0, drop 2 line)
    else if is_marked 60 line then (1, drop 2 line)
    else if is_dump line then (0, dump_part line)
    else if is_dump (unindented line) then (1, dump_part (unindented line))
    else (2, line)

-- the digits of a part of a line, where it is of the side
abbrev pub part_digits : ℕ → ℕ × List ℕ → List ℕ
part_digits side (of, part) = if of == side then without_gaps part else []

-- a line ends here
abbrev pub is_feed : ℕ → Bool
is_feed c = c == 10

abbrev pub digits_of : ℕ → List (List ℕ) → List ℕ
digits_of side [] = []
digits_of side (line ∷ lines) = part_digits side (part_of line) ++ digits_of side lines

abbrev pub has_zero : List ℕ → Bool
has_zero [] = false
has_zero (c ∷ cs) = (c == 0) || has_zero cs

abbrev pub if_decoded : Result (List ℕ) DecodeError → Option (List ℕ)
if_decoded (Ok bytes) = Some bytes
if_decoded (Err error) = None

abbrev pub base64_bytes : List ℕ → Option (List ℕ)
base64_bytes digits = if_decoded (base64.decode_of standard digits)

-- base64 is read only where nothing says which side sent it
abbrev pub hex_or : ℕ → List ℕ → Result (List ℕ) FromHexError → Option (List ℕ)
hex_or side digits (Ok bytes) = Some bytes
hex_or side digits (Err error) = if side == 2 then base64_bytes digits else None

abbrev pub digits_bytes : ℕ → List ℕ → Option (List ℕ)
digits_bytes side digits = hex_or side digits (decode_of digits)

-- the bytes that a text gives for a side, if it is such a text; a byte 0 stands in no text
unfoldable pub text_bytes : ℕ → List ℕ → Option (List ℕ)
text_bytes side text =
    if has_zero text then None else digits_bytes side (digits_of side (slice_split is_feed text))
