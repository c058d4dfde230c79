-- The names of tags (KMIP 1.0, 9.1.3.1).
use Rattle.std.specs.Prelude.{ℕ, ◌+◌, ◌-◌, List, [], ◌∷◌, Option, None, nat_lt, slice_get, if◌then◌else◌}
use Rattle.kmip_tags.specs.Table.{first_tag, names}

-- Some exactly for the tags of the table
abbrev pub name_of : ℕ → Option (List ℕ)
name_of tag = if nat_lt tag first_tag then None else slice_get names (tag - first_tag)

-- each name with its tag, one tag after the other
abbrev pub entries_from : ℕ → List (List ℕ) → List (ℕ × List ℕ)
entries_from tag [] = []
entries_from tag (name ∷ rest) = (tag, name) ∷ entries_from (tag + 1) rest

unfoldable pub entries : List (ℕ × List ℕ)
entries = entries_from first_tag names
