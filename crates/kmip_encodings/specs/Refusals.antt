-- Why a text is not read, for a person.
use Rattle.std.specs.Prelude.{◌≡◌, ℕ, ◌+◌, ◌==◌, ◌||◌, nat_lt, nat_le, Bool, List, [], ◌∷◌, ◌++◌, length, take, filter, codes, Option, Some, None}
use Rattle.std.specs.List.{after_last}
use Rattle.std.specs.Fmt.{decimal}
use Rattle.kmip_encodings.specs.declared.error.Expected.{Expected}
use Rattle.kmip_encodings.specs.declared.error.Expected.TheVariants as expected
use Rattle.kmip_encodings.specs.declared.error.Fault.{Fault}
use Rattle.kmip_encodings.specs.declared.error.EncodingError.{EncodingError}
use Rattle.kmip_encodings.specs.declared.error.EncodingError.TheVariants as errors
use Rattle.kmip_encodings.specs.declared.found.Found.{Found}
use Rattle.kmip_encodings.specs.declared.found.Found.TheVariants as found
use Rattle.kmip_encodings.specs.declared.refusal.Refusal.{Refusal}
use Rattle.kmip_encodings.specs.Expected.{expected_text}

-- a part of a path, and the full stop after it where another part follows
abbrev pub dotted : List ℕ → List ℕ
dotted [] = []
dotted (c ∷ cs) = c ∷ cs ++ codes "."

abbrev pub index_text : ℕ → List ℕ
index_text index = codes "value[" ++ (decimal index ++ codes "]")

-- the way to an item from the outermost one: the index of each among its siblings, which its place
-- has with the innermost first
abbrev pub place_text : List ℕ → List ℕ
place_text [] = []
place_text (index ∷ around) = dotted (place_text around) ++ index_text index

-- the member of an item that is at fault, where one is that items have
abbrev pub member_of : Expected → Option (List ℕ)
member_of expected.Object = None
member_of expected.Members = None
member_of expected.Tag = Some (codes "tag")
member_of expected.Type = Some (codes "type")
member_of (expected.Value kind) = Some (codes "value")
member_of expected.FewerLevels = None

-- the way to an item, or to one of its members, as `value[1].value[0].type`
abbrev pub path_text : List ℕ → Option (List ℕ) → List ℕ
path_text place None = place_text place
path_text place (Some name) = dotted (place_text place) ++ name

-- the path with a comma before it, where there is one
abbrev pub path_part : List ℕ → List ℕ
path_part [] = []
path_part (c ∷ cs) = codes ", " ++ c ∷ cs

abbrev pub position_text : ℕ → ℕ → List ℕ
position_text line column = codes "line " ++ (decimal line ++ (codes ", column " ++ decimal column))

abbrev pub found_text : List ℕ → List ℕ → List ℕ
found_text expected found = codes ": expected " ++ (expected ++ (codes ", found " ++ found))

-- what stands at a place, by its form
abbrev pub found_words : Found → List ℕ
found_words found.Nothing = codes "nothing"
found_words found.Null = codes "null"
found_words found.Truth = codes "true or false"
found_words found.Number = codes "a number"
found_words found.OtherNumber = codes "another number"
found_words found.String = codes "a string"
found_words found.OtherString = codes "another string"
found_words found.Array = codes "an array"
found_words found.Object = codes "an object"
found_words found.OtherMember = codes "another member"
found_words found.NameTwice = codes "one twice"
found_words found.DeeperLevel = codes "one more, or JSON that nests more than 128 deep"
found_words found.Element = codes "an element"
found_words found.OtherName = codes "another name"
found_words found.OtherValue = codes "another value"
found_words found.End = codes "the end of the text"
found_words found.OtherText = codes "something else"

-- the sentence, with no full stop, as
-- `line 1, column 55, value: expected true, false, or 0x and 16 hex digits, found a number`
abbrev pub refusal_text : Refusal → List ℕ
refusal_text r =
    position_text r.line r.column
    ++ (path_part r.path ++ found_text r.expected (found_words r.found))

abbrev pub is_line_feed : ℕ → Bool
is_line_feed b = b == 10

-- whether a byte of UTF-8 begins a character
abbrev pub begins_character : ℕ → Bool
begins_character b = nat_lt b 128 || nat_le 192 b

-- the line of the byte at an offset, counted from 1, by the line feeds before it
abbrev pub line_of : List ℕ → ℕ → ℕ
line_of text offset = length (filter is_line_feed (take offset text)) + 1

-- its column, counted from 1, by the characters before it in its line
abbrev pub column_of : List ℕ → ℕ → ℕ
column_of text offset =
    length (filter begins_character (after_last is_line_feed (take offset text))) + 1

-- where the part that is at fault stands: of what stands in no item there is no way
abbrev pub path_of : EncodingError → List ℕ
path_of (errors.NotJson at) = []
path_of (errors.TooDeep at) = []
path_of errors.RepeatedName = []
path_of (errors.Misfit fault) = path_text fault.place.items (member_of fault.expected)
path_of errors.OutOfMemory = []

-- what was expected; names of numbers are those under the tag
abbrev pub expected_of : EncodingError → ℕ → List ℕ
expected_of (errors.NotJson at) tag = codes "JSON"
expected_of (errors.TooDeep at) tag = codes "at most 64 levels of items"
expected_of errors.RepeatedName tag = codes "each name once in an object"
expected_of (errors.Misfit fault) tag = expected_text fault.expected tag
expected_of errors.OutOfMemory tag = []

-- whether a refusal may stand at an offset: of what is no JSON it is where reading stopped
abbrev pub StandsAt : EncodingError → ℕ → Type 0
StandsAt (errors.NotJson at) offset = offset ≡ at
StandsAt (errors.TooDeep at) offset = offset ≡ at
StandsAt error offset = Unit {0}

-- A refusal of a text: its path and what was expected follow from the error, in which no value is,
-- and from a tag; it stands at the line and the column of a byte; and what was found is a form.
abbrev pub Tells : List ℕ → EncodingError → Refusal → Type 0
Tells text error r =
    (r.path ≡ path_of error)
    × ((tag : ℕ) × (r.expected ≡ expected_of error tag))
    × ((offset : ℕ) × StandsAt error offset
    × (r.line ≡ line_of text offset) × (r.column ≡ column_of text offset))
