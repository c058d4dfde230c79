-- A tree as a value of JSON, and as its text.
use Rattle.std.specs.Prelude.{ℕ, ◌+◌, ◌^◌, nat_lt, ℤ, Bool, List, codes, Option, Some, None, if◌then◌else◌, unsigned_abs}
use Rattle.std.specs.Fmt.{decimal, signed_decimal}
use Rattle.std.specs.Int.{w64, to_be_bytes, cast_unsigned}
use Rattle.hex.specs.Hex.{encode_upper}
use Rattle.json.specs.Json.{Json, boolean as truth, number, string, array, object, Items, no_items, item, Members, no_members, member}
use Rattle.json.specs.Print.{print}
use Rattle.json.specs.Tree.{json_tokens}
use Rattle.kmip_wire.specs.declared.kind.Kind.{Kind}
use Rattle.kmip_wire.specs.Kinds.{kind_of_scalar}
use Rattle.kmip_wire.specs.Tree.{Tree, Trees, Scalar, scalar, structure, none, more, integer, long_integer, big_integer, enumeration, boolean, text_string, byte_string, date_time, interval}
use Rattle.kmip_wire.specs.Names.{kind_name}
use Rattle.kmip_tags.specs.Tags as tags
use Rattle.kmip_encodings.specs.Sizes.{size_of}
use Rattle.kmip_encodings.specs.Context.{place, named_after}
use Rattle.kmip_encodings.specs.Texts.{hex_text, tag_text, enumeration_text, date_text, mask_text}

-- whether a number is nearer to 0 than 2^52
abbrev pub is_short : ℤ → Bool
is_short z = nat_lt (unsigned_abs z) (2 ^ 52)

abbrev pub long_json : ℤ → Json
long_json z =
    if is_short z then number (signed_decimal z)
    else string (hex_text (to_be_bytes w64 (cast_unsigned w64 z)))

abbrev pub text_or_number : ℤ → Option (List ℕ) → Json
text_or_number z None = number (signed_decimal z)
text_or_number z (Some s) = string s

-- a mask by the names of its bits, with `|` between two, and any other number in decimal
abbrev pub integer_json : ℕ → ℤ → Json
integer_json tag z = text_or_number z (mask_text (codes "|") tag z)

-- the value of an item, whose names are looked up under the tag
abbrev pub value_json : ℕ → Scalar → Json
value_json tag (integer z) = integer_json tag z
value_json tag (long_integer z) = long_json z
value_json tag (big_integer b) = string (hex_text b)
value_json tag (enumeration n) = string (enumeration_text tag n)
value_json tag (boolean b) = truth b
value_json tag (text_string b) = string b
value_json tag (byte_string b) = string (encode_upper b)
value_json tag (date_time n) = string (date_text n)
value_json tag (interval n) = number (decimal n)

-- where an item begins: a number where items' offsets are wanted, and None where they are not
abbrev pub Offset : Type 0
Offset = Option ℕ

-- so many bytes on
abbrev pub after : ℕ → Offset → Offset
after size None = None
after size (Some at) = Some (at + size)

abbrev pub offset_member : Offset → Members → Members
offset_member None rest = rest
offset_member (Some at) rest = member (codes "offset") (number (decimal at)) rest

abbrev pub tag_member : ℕ → Members → Members
tag_member tag rest = member (codes "tag") (string (tag_text tag)) rest

abbrev pub value_member : Json → Members
value_member value = member (codes "value") value no_members

-- an item that is no structure
abbrev pub item_json : Offset → ℕ → Kind → Json → Json
item_json at tag kind value =
    object (offset_member at (tag_member tag
    (member (codes "type") (string (kind_name kind)) (value_member value))))

-- an object of the offset where offsets are wanted, of the tag, of the type unless it is Structure,
-- and of the value; a structure's value is an array of its items, the first of which begins after
-- its head of 8 bytes, and each other where the one before it ends
abbrev mutual
  pub json_at : Offset → ℕ → Tree → Json
  json_at at named (scalar tag s) = item_json at tag (kind_of_scalar s) (value_json (place named tag) s)
  json_at at named (structure tag ts) =
      object (offset_member at (tag_member tag (value_member (array
      (items_at (after 8 at) tags.ATTRIBUTE_VALUE ts)))))

  pub items_at : Offset → ℕ → Trees → Items
  items_at at named none = no_items
  items_at at named (more t ts) =
      item (json_at at named t) (items_at (after (size_of t) at) (named_after named t) ts)

-- with no offsets
abbrev pub json_of : Tree → Json
json_of t = json_at None tags.ATTRIBUTE_VALUE t

abbrev pub items_json : Trees → Items
items_json ts = items_at None tags.ATTRIBUTE_VALUE ts

-- the text of a tree's JSON, with no white space
unfoldable pub text_at : Offset → Tree → List ℕ
text_at at t = print (json_tokens (json_at at tags.ATTRIBUTE_VALUE t))

abbrev pub json_text : Tree → List ℕ
json_text t = text_at None t
