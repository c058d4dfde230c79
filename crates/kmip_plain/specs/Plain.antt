-- An item as plain JSON: a structure is an object with a member for each tag in it.
use Rattle.std.specs.Prelude.{ℕ, ◌==◌, not, List, [], ◌∷◌, map, filter}
use Rattle.hex.specs.Hex.{encode_upper}
use Rattle.json.specs.Json.{Json, string, array, object, Members, no_members, member}
use Rattle.json.specs.Value.{items_of}
use Rattle.kmip_tags.specs.Tags.{ATTRIBUTE_VALUE}
use Rattle.kmip_wire.specs.Parts.{tag_of}
use Rattle.kmip_wire.specs.Tree.{Tree, Trees, Scalar, scalar, structure, none, more, big_integer}
use Rattle.kmip_encodings.specs.Context.{place, named_after}
use Rattle.kmip_encodings.specs.Encoding.{value_json}
use Rattle.kmip_plain.specs.Names.{plain_name}

-- the value of an item that is no structure, as the tree's JSON has it, but a Big Integer without
-- `0x`
abbrev pub plain_value : ℕ → Scalar → Json
plain_value tag (big_integer bytes) = string (encode_upper bytes)
plain_value tag value = value_json tag value

-- the tag of an item, and the item's plain JSON
abbrev pub Entry : Type 0
Entry = ℕ × Json

-- each tag once, in the order of first occurrence
abbrev pub each_once : List ℕ → List ℕ
each_once [] = []
each_once (tag ∷ tags) = tag ∷ filter (λ other. not (tag == other)) (each_once tags)

-- the JSON of the items that have the tag, in order
abbrev pub under : ℕ → List Entry → List Json
under tag entries = map (λ entry. entry.1) (filter (λ entry. entry.0 == tag) entries)

-- one value as it is, and several as an array
abbrev pub one_or_array : List Json → Json
one_or_array (value ∷ []) = value
one_or_array values = array (items_of values)

-- a member for each of the tags
abbrev pub members_for : List ℕ → List Entry → Members
members_for [] entries = no_members
members_for (tag ∷ tags) entries =
    member (plain_name tag) (one_or_array (under tag entries)) (members_for tags entries)

abbrev pub object_of : List Entry → Json
object_of entries = object (members_for (each_once (map (λ entry. entry.0) entries)) entries)

-- the plain JSON of an item, and the entries of a structure's items; names of Attribute Value are
-- those that an Attribute Name before it in the same structure says
abbrev mutual
  pub plain_at : ℕ → Tree → Json
  plain_at named (scalar tag value) = plain_value (place named tag) value
  plain_at named (structure tag items) = object_of (entries_of ATTRIBUTE_VALUE items)

  pub entries_of : ℕ → Trees → List Entry
  entries_of named none = []
  entries_of named (more item items) =
      (tag_of item, plain_at named item) ∷ entries_of (named_after named item) items

abbrev pub plain_json : Tree → Json
plain_json tree = plain_at ATTRIBUTE_VALUE tree
