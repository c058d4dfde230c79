-- The names of the numbers of enumerations, by the tag that they stand under.
use Rattle.std.specs.Prelude.{ℕ, ◌==◌, ◌&&◌, List, [], ◌∷◌, map, get_or, Option, Some, None, if◌then◌else◌, bytes_eq}
use Rattle.kmip_encodings.specs.Lines.{Line, lines}

-- the name of the number, which is that of the first line of both
abbrev pub name_in : List Line → ℕ → ℕ → Option (List ℕ)
name_in [] tag number = None
name_in (line ∷ ls) tag number =
    if (line.0 == tag) && (line.1.0 == number) then Some line.1.1 else name_in ls tag number

abbrev pub number_in : List Line → ℕ → List ℕ → Option ℕ
number_in [] tag name = None
number_in (line ∷ ls) tag name =
    if (line.0 == tag) && bytes_eq line.1.1 name then Some line.1.0 else number_in ls tag name

-- the name of the number, and the number of the name, of the enumeration under the tag
unfoldable pub enumeration_name : ℕ → ℕ → Option (List ℕ)
enumeration_name tag number = name_in lines tag number

unfoldable pub enumeration_number : ℕ → List ℕ → Option ℕ
enumeration_number tag name = number_in lines tag name

-- the three lists that the program has of the lines
unfoldable pub line_tags : List ℕ
line_tags = map (λ l. l.0) lines

unfoldable pub line_numbers : List ℕ
line_numbers = map (λ l. l.1.0) lines

unfoldable pub line_names : List (List ℕ)
line_names = map (λ l. l.1.1) lines

abbrev pub line_at : ℕ → Line
line_at index = get_or lines index (0, (0, []))
