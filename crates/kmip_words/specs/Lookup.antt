-- The value that stands at a path of names in an answer's line of JSON (RFC 8259), as the crate
-- `json` reads one.
use Rattle.std.specs.Prelude.{ℕ, List, [], ◌∷◌, Bool, true, false, Option, Some, None, codes}
use Rattle.std.specs.Option.{option_and_then}
use Rattle.std.specs.Result.{result_ok}
use Rattle.hex.specs.Hex.{decode_of}
use Rattle.json.specs.Json.{Json, boolean, number, string, array, object, document}
use Rattle.json.specs.Find.{get_member, get_item}
use Rattle.kmip_shape.specs.Shown.{truth_shown}
use Rattle.kmip_request_words.specs.Values.{number_of}
use Rattle.kmip_request_words.specs.Words.{parts_between}

-- a member of an object by its name, or an item of an array by its index in decimal digits
abbrev pub part_named : List ℕ → Json → Option Json
part_named name (object members) = get_member name members
part_named name (array items) = option_and_then (λ index. get_item index items) (number_of name)
part_named name value = None

-- the part of a part, by the names from the outer to the inner
abbrev pub part_at : List (List ℕ) → Json → Option Json
part_at [] value = Some value
part_at (name ∷ names) value = option_and_then (part_at names) (part_named name value)

-- the bytes that a value is returned as: those of a string, the digits of a number, `true` or
-- `false`; or, where bytes in hex are asked for, those that a string spells
abbrev pub bytes_in : Bool → Json → Option (List ℕ)
bytes_in false (string text) = Some text
bytes_in false (number digits) = Some digits
bytes_in false (boolean truth) = Some (truth_shown truth)
bytes_in true (string text) = result_ok (decode_of text)
bytes_in hex value = None

-- the value at a path of names, with a dot between two, below the member `answer` of a line
abbrev pub value_at : List ℕ → Bool → List ℕ → Option (List ℕ)
value_at path hex line =
    option_and_then (bytes_in hex)
    (option_and_then (part_at (codes "answer" ∷ parts_between 46 path)) (document line))
