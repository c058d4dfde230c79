-- The names of tags as one word each, as the encodings of KMIP in JSON and XML have them.
use Rattle.std.specs.Prelude.{ℕ, ◌+◌, ◌-◌, ◌==◌, ◌||◌, List, [], ◌∷◌, Option, Some, None, nat_lt, flat_map, map, slice_get, if◌then◌else◌, bytes_eq}
use Rattle.kmip_tags.specs.Table.{first_tag, names}

-- a space, `-` and `/` are left out; `.` and `#` are written `_`
abbrev pub spelled_byte : ℕ → List ℕ
spelled_byte c =
    if (c == 32) || ((c == 45) || (c == 47)) then []
    else if (c == 46) || (c == 35) then 95 ∷ []
    else c ∷ []

abbrev pub spelled : List ℕ → List ℕ
spelled name = flat_map spelled_byte name

unfoldable pub words : List (List ℕ)
words = map spelled names

-- Some exactly for the tags of the table
abbrev pub tag_word : ℕ → Option (List ℕ)
tag_word tag = if nat_lt tag first_tag then None else slice_get words (tag - first_tag)

-- the tag whose word it is, where the first of these words is that of the tag
abbrev pub named_from : ℕ → List (List ℕ) → List ℕ → Option ℕ
named_from tag [] word = None
named_from tag (w ∷ ws) word = if bytes_eq w word then Some tag else named_from (tag + 1) ws word

unfoldable pub tag_named : List ℕ → Option ℕ
tag_named word = named_from first_tag words word
