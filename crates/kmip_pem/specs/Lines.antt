-- A text as its lines, without the white space round each (RFC 7468, 3).
use Rattle.std.specs.Prelude.{ℕ, ◌==◌, nat_le, Bool, ◌&&◌, ◌||◌, List, [], ◌∷◌, ◌++◌, map, reverse, if◌then◌else◌}
use Rattle.std.specs.List.{onto_first}

-- LF or CR: between the two of CRLF is an empty line
abbrev pub is_line_end : ℕ → Bool
is_line_end a = a == 10 || a == 13

-- what stands before each line end, and behind the last one, if anything does
abbrev pub cut : List ℕ → List (List ℕ)
cut [] = []
cut (a ∷ text) = if is_line_end a then [] ∷ cut text else onto_first a (cut text)

-- space, tab, and the line and page breaks
abbrev pub is_white : ℕ → Bool
is_white a = a == 32 || (nat_le 9 a && nat_le a 13)

-- a line without the white space before it
abbrev pub without_white : List ℕ → List ℕ
without_white [] = []
without_white (a ∷ line) = if is_white a then without_white line else a ∷ line

-- and without that behind it
abbrev pub trimmed : List ℕ → List ℕ
trimmed line = reverse (without_white (reverse (without_white line)))

unfoldable pub lines_in : List ℕ → List (List ℕ)
lines_in text = map trimmed (cut text)

-- lines as a text
abbrev pub text_of : List (List ℕ) → List ℕ
text_of [] = []
text_of (line ∷ lines) = line ++ (10 ∷ text_of lines)
