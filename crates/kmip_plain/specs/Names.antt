-- The names of tags in plain JSON.
use Rattle.std.specs.Prelude.{ℕ, ◌&&◌, ◌||◌, Bool, false, List, [], ◌∷◌, ◌++◌, option_map, map, if◌then◌else◌}
use Rattle.std.specs.Char.{is_ascii_uppercase, is_ascii_lowercase, is_ascii_digit, to_ascii_lowercase}
use Rattle.std.specs.Option.{unwrap_or}
use Rattle.kmip_encodings.specs.Words.{words, tag_word}
use Rattle.kmip_encodings.specs.Texts.{tag_text}

abbrev pub begins_small : List ℕ → Bool
begins_small [] = false
begins_small (next ∷ bytes) = is_ascii_lowercase next

-- whether a word begins at this byte of a name: a capital letter after a small letter or a digit, or
-- one after a capital letter and before a small one
abbrev pub begins_word : ℕ → ℕ → List ℕ → Bool
begins_word before byte bytes =
    is_ascii_uppercase byte
    && ((is_ascii_lowercase before || is_ascii_digit before)
    || (is_ascii_uppercase before && begins_small bytes))

-- the rest of a name after this byte
abbrev pub snake_after : ℕ → List ℕ → List ℕ
snake_after before [] = []
snake_after before (byte ∷ bytes) =
    (if begins_word before byte bytes then 95 ∷ [] else [])
    ++ to_ascii_lowercase byte ∷ snake_after byte bytes

-- in small letters, with `_` before each word but the first; `_` stands before the first byte, so
-- that no word begins there
abbrev pub snake_case : List ℕ → List ℕ
snake_case name = snake_after 95 name

-- the names of the tags of the table, in tag order
unfoldable pub plain_names : List (List ℕ)
plain_names = map snake_case words

-- the tag's name in snake case, or `0x` and six digits where it has none
abbrev pub plain_name : ℕ → List ℕ
plain_name tag = unwrap_or (option_map snake_case (tag_word tag)) (tag_text tag)
