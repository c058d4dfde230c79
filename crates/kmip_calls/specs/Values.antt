-- The value at a path in the line of an answer (RFC 8259), as the crate `json` reads one.
use Rattle.std.specs.Prelude.{ℕ, zero, suc, List, [], ◌∷◌, Bool, true, false, ◌&&◌, ◌||◌, is_some, Option, Some, None, if◌then◌else◌, codes, bytes_eq}
use Rattle.std.specs.Option.{option_and_then}
use Rattle.std.specs.Result.{result_ok}
use Rattle.hex.specs.Hex.{decode_of}
use Rattle.json.specs.Json.{Json, string, array, Items, no_items, item, document}
use Rattle.json.specs.Find.{get}
use Rattle.kmip_request_words.specs.Complaints.{value_after}
use Rattle.kmip_request_words.specs.Values.{number_of}
use Rattle.kmip_request_words.specs.Words.{parts_between}
use Rattle.kmip_words.specs.Lookup.{bytes_in, value_at}

abbrev pub is_string : List ℕ → Option Json → Bool
is_string text (Some (string found)) = bytes_eq found text
is_string text value = false

-- whether a member of an object is this text
abbrev pub has_text : List ℕ → List ℕ → Json → Bool
has_text name text value = is_string text (get name value)

-- among items the one with this tag, after so many others with it
abbrev pub item_among : List ℕ → ℕ → Items → Option Json
item_among tag index no_items = None
item_among tag zero (item first items) =
    if has_text (codes "tag") tag first then Some first else item_among tag zero items
item_among tag (suc index) (item first items) =
    if has_text (codes "tag") tag first then item_among tag index items
    else item_among tag (suc index) items

abbrev pub among_items : List ℕ → ℕ → Option Json → Option Json
among_items tag index (Some (array items)) = item_among tag index items
among_items tag index value = None

-- the item with this tag below a structure, after so many others with it
abbrev pub item_in : List ℕ → ℕ → Json → Option Json
item_in tag index structure = among_items tag index (get (codes "value") structure)

abbrev pub with_index : Option ℕ → List (List ℕ) → List (List ℕ) → ℕ × List (List ℕ)
with_index (Some index) behind all = (index, behind)
with_index None behind all = (0, all)

-- the number in front of names, and the names behind; 0 and all where none stands there
abbrev pub index_first : List (List ℕ) → ℕ × List (List ℕ)
index_first [] = (0, [])
index_first (next ∷ names) = with_index (number_of next) names (next ∷ names)

abbrev pub by_index : Option ℕ → (ℕ → Option Json) → Option Json → Option Json
by_index (Some index) counted first = counted index
by_index None counted first = first

-- the item at a path of tags, where the number after a tag says how many items with it stand before,
-- and no number none
abbrev pub item_at : List (List ℕ) → Json → Option Json
item_at [] here = Some here
item_at (tag ∷ []) here = item_in tag 0 here
item_at (tag ∷ next ∷ names) here =
    by_index (number_of next)
    (λ index. option_and_then (item_at names) (item_in tag index here))
    (option_and_then (item_at (next ∷ names)) (item_in tag 0 here))

-- whether the value of an item is written in hex digits: that of a Byte String or a Big Integer
abbrev pub has_digits : Json → Bool
has_digits here =
    has_text (codes "type") (codes "ByteString") here
    || has_text (codes "type") (codes "BigInteger") here

abbrev pub value_or_all : Option (List ℕ) → List ℕ → List ℕ
value_or_all (Some value) all = value
value_or_all None all = all

-- hex digits, without a `0x` before them
abbrev pub digits_in : List ℕ → List ℕ
digits_in text = value_or_all (value_after (codes "0x") text) text

-- the bytes that hex digits spell, with `0x` before them or not
abbrev pub spelled : List ℕ → Option (List ℕ)
spelled text = result_ok (decode_of (digits_in text))

abbrev pub spelled_in : Option Json → Option (List ℕ)
spelled_in (Some (string digits)) = spelled digits
spelled_in value = None

-- the bytes that the value of an item is returned as
abbrev pub bytes_of_item : Bool → Json → Option (List ℕ)
bytes_of_item false here = option_and_then (bytes_in false) (get (codes "value") here)
bytes_of_item true here = if has_digits here then spelled_in (get (codes "value") here) else None

-- the value at a path of tags below an item, with a dot between two
abbrev pub value_below : List ℕ → Bool → Json → Option (List ℕ)
value_below path hex here =
    option_and_then (bytes_of_item hex) (item_at (parts_between 46 path) here)

abbrev pub is_item : Json → Bool
is_item value = is_some (get (codes "tag") value)

abbrev pub value_or : Option (List ℕ) → List ℕ → Bool → Option Json → Option (List ℕ)
value_or other path hex (Some answer) =
    if is_item answer then value_below path hex answer else other
value_or other path hex None = other

-- the value at a path below the member `answer` of a line: by tags where that is an item, an object
-- with the member `tag`, and else by names
unfoldable pub value_in : List ℕ → Bool → List ℕ → Option (List ℕ)
value_in path hex line =
    value_or (value_at path hex line) path hex
    (option_and_then (get (codes "answer")) (document line))
