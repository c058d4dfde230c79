-- The front of a text, and what follows it: white space, texts and words (XML 1.0, 2.3).
use Rattle.std.specs.Prelude.{ℕ, ◌==◌, ◌||◌, nat_lt, Bool, List, length, take, drop, Option, Some, None, if◌then◌else◌}
use Rattle.std.specs.List.{prefix_len, position_or_len, before_first, after_first, starts_with}
use Rattle.kmip_encodings.specs.XmlGrammar.{is_between, is_letter}

abbrev pub is_space : ℕ → Bool
is_space c = (c == 32) || ((c == 9) || ((c == 10) || (c == 13)))

-- the text without the white space at its front
unfoldable pub trimmed : List ℕ → List ℕ
trimmed s = drop (prefix_len is_space s) s

-- the same, where some stands there
abbrev pub spaced : List ℕ → Option (List ℕ)
spaced s = if nat_lt (length (trimmed s)) (length s) then Some (trimmed s) else None

-- what follows this text at the front
unfoldable pub after : List ℕ → List ℕ → Option (List ℕ)
after front s =
    if starts_with (λ a b. a == b) s front then Some (drop (length front) s) else None

-- what stands before the first of a character, and what after it
unfoldable pub around : ℕ → List ℕ → Option (List ℕ × List ℕ)
around c s =
    if nat_lt (position_or_len (λ b. b == c) s) (length s)
    then Some (before_first (λ b. b == c) s, after_first (λ b. b == c) s) else None

-- letters, digits and `_`, as the names of tags and attributes have them
abbrev pub is_in_word : ℕ → Bool
is_in_word c = is_letter c || (is_between 48 57 c || (c == 95))

unfoldable pub word : List ℕ → List ℕ × List ℕ
word s = (take (prefix_len is_in_word s) s, drop (prefix_len is_in_word s) s)
