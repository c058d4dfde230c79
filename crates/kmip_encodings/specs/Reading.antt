-- What a value of JSON means as a tree.
use Rattle.std.specs.Prelude.{◌≡◌, bit_or, ℕ, zero, suc, ◌+◌, ◌-◌, ◌^◌, ◌==◌, ◌&&◌, ◌||◌, nat_lt, nat_le, slice_index, ℤ, pos, negsuc, Bool, true, false, List, [], ◌∷◌, ◌++◌, length, drop, codes, Option, Some, None, IsSomeAnd, Result, Ok, Err, if◌then◌else◌, bytes_eq, unsigned_abs, option_map, option_and_then}
use Rattle.std.specs.Int.{w32, w64, from_be_bytes, to_be_bytes, cast_signed, cast_unsigned}
use Rattle.std.specs.List.{slice_split}
use Rattle.std.specs.Result.{result_ok}
use Rattle.std.specs.Fmt.{signed_decimal}
use Rattle.std.specs.Str.Parse.{signed_digits_value}
use Rattle.hex.specs.Hex.{decode_of}
use Rattle.json.specs.Json as json
use Rattle.json.specs.Json.{Json, Items, Members, document, max_depth}
use Rattle.json.specs.Lex.{tokens}
use Rattle.json.specs.Token as token
use Rattle.json.specs.Token.{Token}
use Rattle.json.specs.Find.{get, is_null, as_str, as_array}
use Rattle.json.specs.Strict.{HasUniqueKeys}
use Rattle.kmip_wire.specs.declared.kind.Kind.{Kind}
use Rattle.kmip_wire.specs.declared.kind.Kind.TheVariants.{Structure, Integer, LongInteger, BigInteger, Enumeration, Boolean, TextString, ByteString, DateTime, Interval}
use Rattle.kmip_wire.specs.Tree.{Tree, Trees, Scalar, scalar, structure, none, more, trees_of, integer, long_integer, big_integer, enumeration, boolean, text_string, byte_string, date_time, interval}
use Rattle.kmip_tags.specs.Tags as tags
use Rattle.kmip_encodings.specs.declared.error.Expected.{Expected}
use Rattle.kmip_encodings.specs.declared.error.Expected.TheVariants as expected
use Rattle.kmip_encodings.specs.declared.error.Fault.{Fault}
use Rattle.kmip_encodings.specs.declared.error.EncodingError.{EncodingError}
use Rattle.kmip_encodings.specs.declared.error.EncodingError.TheVariants as errors
use Rattle.kmip_encodings.specs.Words.{tag_named}
use Rattle.kmip_encodings.specs.Names.{enumeration_number}
use Rattle.kmip_encodings.specs.Masks.{mask_bit}
use Rattle.kmip_encodings.specs.Context.{place, named_after}
use Rattle.kmip_encodings.specs.Dates.{date_number}

abbrev pub has_mark : List ℕ → Bool
has_mark s = nat_le 2 (length s) && ((slice_index s 0 == 48) && (slice_index s 1 == 120))

-- the bytes of `0x` and their digits
abbrev pub hex_bytes : List ℕ → Option (List ℕ)
hex_bytes s = if has_mark s then result_ok (decode_of (drop 2 s)) else None

-- the numbers of three, four and eight bytes

abbrev pub tag_of_bytes : List ℕ → Option ℕ
tag_of_bytes b = if length b == 3 then Some (from_be_bytes w32 (0 ∷ b)) else None

abbrev pub word_of_bytes : List ℕ → Option ℕ
word_of_bytes b = if length b == 4 then Some (from_be_bytes w32 b) else None

abbrev pub long_of_bytes : List ℕ → Option ℕ
long_of_bytes b = if length b == 8 then Some (from_be_bytes w64 b) else None

-- the number of `0x` and its digits, or else of what is no such text
abbrev pub hex_or : List ℕ → (List ℕ → Option ℕ) → Option ℕ → Option ℕ
hex_or s number other = if has_mark s then option_and_then number (hex_bytes s) else other

-- `0x` and six digits, or a name
unfoldable pub tag_of_text : List ℕ → Option ℕ
tag_of_text s = hex_or s tag_of_bytes (tag_named s)

-- `0x` and eight digits, or a name
unfoldable pub enumeration_of_text : ℕ → List ℕ → Option ℕ
enumeration_of_text tag s = hex_or s word_of_bytes (enumeration_number tag s)

-- `0x` and 16 digits, or a date and a time of day
unfoldable pub date_of_text : List ℕ → Option ℕ
date_of_text s = hex_or s long_of_bytes (date_number s)

-- `0x` and eight digits, or the name of a bit of the mask under the tag
abbrev pub part_of_text : ℕ → List ℕ → Option ℕ
part_of_text tag s = hex_or s word_of_bytes (mask_bit tag s)

abbrev pub with_part : Option ℕ → Option ℕ → Option ℕ
with_part (Some part) (Some bits) = Some (bit_or bits part)
with_part part bits = None

-- the bits of these parts together
abbrev pub bits_of_parts : ℕ → List (List ℕ) → Option ℕ
bits_of_parts tag [] = Some 0
bits_of_parts tag (part ∷ parts) = with_part (part_of_text tag part) (bits_of_parts tag parts)

-- the parts stand with `|` between two of them
unfoldable pub mask_of_text : ℕ → List ℕ → Option ℕ
mask_of_text tag s = bits_of_parts tag (slice_split (λ c. c == 124) s)

-- `0x` and 16 digits, which are all 0 but for the last, 0 or 1
abbrev pub truth_of_long : ℕ → Option Bool
truth_of_long n = if n == 0 then Some false else if n == 1 then Some true else None

-- whether a number is nearer to 0 than 2^53: a reader that holds numbers as doubles holds it
-- exactly
abbrev pub is_exact : ℤ → Bool
is_exact z = nat_lt (unsigned_abs z) (2 ^ 53)

-- the exact number whose decimal form is this text
unfoldable pub whole_number : List ℕ → Option ℤ
whole_number s =
    if is_exact (signed_digits_value 10 s)
    && bytes_eq (signed_decimal (signed_digits_value 10 s)) s
    then Some (signed_digits_value 10 s) else None

abbrev pub small_natural : ℤ → Option ℕ
small_natural (pos n) = if nat_lt n (2 ^ 32) then Some n else None
small_natural (negsuc n) = None

abbrev pub small_integer : ℤ → Option ℤ
small_integer (pos n) = if nat_lt n (2 ^ 31) then Some (pos n) else None
small_integer (negsuc n) = if nat_lt n (2 ^ 31) then Some (negsuc n) else None

abbrev pub natural : List ℕ → Option ℕ
natural s = option_and_then small_natural (whole_number s)

-- The value of an item of the type, whose names are looked up under the tag: of a number, of a
-- string and of a truth value.

abbrev pub number_scalar : Kind → List ℕ → Option Scalar
number_scalar Integer s = option_map integer (option_and_then small_integer (whole_number s))
number_scalar LongInteger s = option_map long_integer (whole_number s)
number_scalar Enumeration s = option_map enumeration (natural s)
number_scalar Interval s = option_map interval (natural s)
number_scalar kind s = None

-- the eight bytes of a number's two's complement
abbrev pub big_bytes : ℤ → List ℕ
big_bytes z = to_be_bytes w64 (cast_unsigned w64 z)

abbrev pub is_big : Kind → Bool
is_big BigInteger = true
is_big kind = false

abbrev pub any_number : Kind → List ℕ → Option Scalar
any_number kind s =
    if is_big kind then option_map big_integer (option_map big_bytes (whole_number s))
    else number_scalar kind s

abbrev pub string_scalar : ℕ → Kind → List ℕ → Option Scalar
string_scalar tag Integer s =
    option_map (λ n. integer (cast_signed w32 n)) (mask_of_text tag s)
string_scalar tag LongInteger s =
    option_map (λ n. long_integer (cast_signed w64 n)) (option_and_then long_of_bytes (hex_bytes s))
string_scalar tag BigInteger s = option_map big_integer (hex_bytes s)
string_scalar tag Enumeration s = option_map enumeration (enumeration_of_text tag s)
string_scalar tag Boolean s =
    option_map boolean
    (option_and_then truth_of_long (option_and_then long_of_bytes (hex_bytes s)))
string_scalar tag TextString s = Some (text_string s)
string_scalar tag ByteString s = option_map byte_string (result_ok (decode_of s))
string_scalar tag DateTime s = option_map date_time (date_of_text s)
string_scalar tag Interval s =
    option_map interval (option_and_then word_of_bytes (hex_bytes s))
string_scalar tag kind s = None

abbrev pub truth_scalar : Kind → Bool → Option Scalar
truth_scalar Boolean b = Some (boolean b)
truth_scalar kind b = None

abbrev pub scalar_in : ℕ → Kind → Json → Option Scalar
scalar_in tag kind (json.number s) = any_number kind s
scalar_in tag kind (json.string s) = string_scalar tag kind s
scalar_in tag kind (json.boolean b) = truth_scalar kind b
scalar_in tag kind value = None

-- What is no item: where it stands, as the index of each item among its siblings, the innermost
-- first, and what was expected there.
pub record Misfit : Type 0 where
  pub place : List ℕ
  pub expected : Expected

abbrev pub misfit_of : Fault → Misfit
misfit_of fault = record { place = fault.place.items; expected = fault.expected }

abbrev pub Read : Type 0 → Type 0
Read A = Result A Misfit

-- what was expected here
abbrev pub wants : {A : Type 0} → Expected → Read A
wants e = Err (record { place = []; expected = e })

-- the same, in the item at the index
abbrev pub within : {A : Type 0} → ℕ → Read A → Read A
within index (Ok x) = Ok x
within index (Err m) = Err (record { place = m.place ++ index ∷ []; expected = m.expected })

abbrev pub trees_read : Read Tree → Read Trees → Read Trees
trees_read (Ok t) (Ok ts) = Ok (more t ts)
trees_read (Ok t) (Err m) = Err m
trees_read (Err m) ts = Err m

-- what an item that is read says of those after it
abbrev pub named_from : ℕ → Read Tree → ℕ
named_from named (Ok t) = named_after named t
named_from named (Err m) = named

-- the trees of items, the first of which has the index; `one` reads an item, whose names are looked
-- up as those before it say
abbrev pub items_by : (ℕ → Json → Read Tree) → ℕ → ℕ → Items → Read Trees
items_by one index named json.no_items = Ok none
items_by one index named (json.item j js) =
    trees_read (within index (one named j))
    (items_by one (index + 1) (named_from named (one named j)) js)

abbrev pub structure_read : ℕ → Read Trees → Read Tree
structure_read tag (Ok ts) = Ok (structure tag ts)
structure_read tag (Err m) = Err m

abbrev pub scalar_read : ℕ → Kind → Option Scalar → Read Tree
scalar_read tag kind (Some s) = Ok (scalar tag s)
scalar_read tag kind None = wants (expected.Value kind)

-- a structure whose value is null has no items
abbrev pub empty_read : ℕ → Bool → Read Tree
empty_read tag true = Ok (structure tag none)
empty_read tag false = wants (expected.Value Structure)

abbrev pub structure_or : ℕ → Bool → Option (Read Trees) → Read Tree
structure_or tag null (Some read) = structure_read tag read
structure_or tag null None = empty_read tag null

-- a structure's value is an array of items, or null
abbrev pub node_read : (ℕ → Json → Read Tree) → ℕ → ℕ → Kind → Json → Read Tree
node_read one named tag Structure value =
    structure_or tag (is_null value) (option_map (items_by one 0 tags.ATTRIBUTE_VALUE) (as_array value))
node_read one named tag kind value = scalar_read tag kind (scalar_in (place named tag) kind value)

-- a value that is left out is null
abbrev pub or_null : Option Json → Json
or_null None = json.null
or_null (Some value) = value

-- the tag, the type and the value of an item
abbrev pub parts_read :
    (ℕ → Json → Read Tree) → ℕ → Option ℕ → Option Kind → Option Json → Read Tree
parts_read one named None kind value = wants expected.Tag
parts_read one named (Some tag) None value = wants expected.Type
parts_read one named (Some tag) (Some kind) value = node_read one named tag kind (or_null value)

abbrev pub kind_named : List ℕ → Option Kind
kind_named s =
    if bytes_eq s (codes "Structure") then Some Structure
    else if bytes_eq s (codes "Integer") then Some Integer
    else if bytes_eq s (codes "LongInteger") then Some LongInteger
    else if bytes_eq s (codes "BigInteger") then Some BigInteger
    else if bytes_eq s (codes "Enumeration") then Some Enumeration
    else if bytes_eq s (codes "Boolean") then Some Boolean
    else if bytes_eq s (codes "TextString") then Some TextString
    else if bytes_eq s (codes "ByteString") then Some ByteString
    else if bytes_eq s (codes "DateTime") then Some DateTime
    else if bytes_eq s (codes "Interval") then Some Interval
    else None

-- Structure where there is no such member
abbrev pub kind_from : Option Json → Option Kind
kind_from None = Some Structure
kind_from (Some j) = option_and_then kind_named (as_str j)

abbrev pub tag_from : Option Json → Option ℕ
tag_from j = option_and_then tag_of_text (option_and_then as_str j)

-- `name` is what a tag that is no name is called, and is not looked at
abbrev pub is_known : List ℕ → Bool
is_known key =
    bytes_eq key (codes "tag") || (bytes_eq key (codes "type") || (bytes_eq key (codes "value")
    || bytes_eq key (codes "name")))

abbrev pub are_known : Members → Bool
are_known json.no_members = true
are_known (json.member key j ms) = is_known key && are_known ms

-- the parts of an object
abbrev pub parts_in : (ℕ → Json → Read Tree) → ℕ → Json → Read Tree
parts_in one named j =
    parts_read one named (tag_from (get (codes "tag") j)) (kind_from (get (codes "type") j))
    (get (codes "value") j)

-- whether each member of an object is one of an item's
abbrev pub known_members : Json → Option Bool
known_members (json.object ms) = Some (are_known ms)
known_members j = None

abbrev pub known_read : Option Bool → Read Tree → Read Tree
known_read (Some true) parts = parts
known_read (Some false) parts = wants expected.Members
known_read None parts = wants expected.Object

abbrev pub object_read : (ℕ → Json → Read Tree) → ℕ → Json → Read Tree
object_read one named j = known_read (known_members j) (parts_in one named j)

-- the tree of a value, with at most so many levels, whose names are looked up as the items before it say
unfoldable pub read_item : ℕ → ℕ → Json → Read Tree
read_item zero named j = wants expected.FewerLevels
read_item (suc levels) named j = object_read (read_item levels) named j

-- the tree that a value of JSON means
unfoldable pub tree_of : Json → Read Tree
tree_of j = read_item 64 tags.ATTRIBUTE_VALUE j

-- why a value is not read; memory may run out
abbrev pub Fails : {A : Type 0} → EncodingError → Read A → Type 0
Fails (errors.NotJson offset) read = ⊥
Fails (errors.TooDeep offset) read = ⊥
Fails errors.RepeatedName read = ⊥
Fails (errors.Misfit fault) read = read ≡ Err (misfit_of fault)
Fails errors.OutOfMemory read = Unit {0}

-- what a call that reads a value returns
abbrev pub Reads : Result Tree EncodingError → Read Tree → Type 0
Reads (Ok tree) read = read ≡ Ok tree
Reads (Err e) read = Fails e read

abbrev pub ReadsItems : Result (List Tree) EncodingError → Read Trees → Type 0
ReadsItems (Ok trees) read = read ≡ Ok (trees_of trees)
ReadsItems (Err e) read = Fails e read

-- how many brackets are open after a token, where so many are before it
abbrev pub depth_after : ℕ → Token → ℕ
depth_after depth token.begin_object = depth + 1
depth_after depth token.end_object = depth - 1
depth_after depth token.begin_array = depth + 1
depth_after depth token.end_array = depth - 1
depth_after depth t = depth

-- whether more brackets than the number are open somewhere among tokens, before which so many are
abbrev pub opens_past : ℕ → ℕ → List Token → Bool
opens_past most depth [] = false
opens_past most depth (t ∷ ts) =
    nat_lt most (depth_after depth t) || opens_past most (depth_after depth t) ts

-- whether a text of JSON, or one that begins as JSON, nests more than 128 deep
unfoldable pub is_too_deep : List ℕ → Bool
is_too_deep text = opens_past max_depth 0 (tokens text)

-- What reading a text returns: the tree that its value means, where it is a text of JSON in which
-- no object has a name twice; or else why there is none. Memory may run out.
abbrev pub ReadsText : Result Tree EncodingError → List ℕ → Type 0
ReadsText (Ok tree) text =
    IsSomeAnd (document text) (λ j. HasUniqueKeys j × (tree_of j ≡ Ok tree))
ReadsText (Err (errors.NotJson offset)) text =
    (document text ≡ None) × (is_too_deep text ≡ false)
ReadsText (Err (errors.TooDeep offset)) text =
    (document text ≡ None) × (is_too_deep text ≡ true)
ReadsText (Err errors.RepeatedName) text = IsSomeAnd (document text) (λ j. ¬ HasUniqueKeys j)
ReadsText (Err (errors.Misfit fault)) text =
    IsSomeAnd (document text) (λ j. HasUniqueKeys j × (tree_of j ≡ Err (misfit_of fault)))
ReadsText (Err errors.OutOfMemory) text = Unit {0}
