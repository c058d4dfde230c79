-- A tree as an element of XML.
use Rattle.std.specs.Prelude.{ℕ, ◌==◌, List, [], ◌∷◌, ◌++◌, ℤ, drop, flat_map, codes, Option, Some, None, if◌then◌else◌}
use Rattle.std.specs.Char.{encode_utf8}
use Rattle.std.specs.Str.{chars}
use Rattle.std.specs.Fmt.{decimal, signed_decimal}
use Rattle.std.specs.Option.{unwrap_or}
use Rattle.std.specs.Int.{w32, to_be_bytes}
use Rattle.hex.specs.Hex.{encode_upper}
use Rattle.kmip_shape.specs.Shown.{truth_shown}
use Rattle.kmip_wire.specs.declared.kind.Kind.{Kind}
use Rattle.kmip_wire.specs.Kinds.{kind_of_scalar}
use Rattle.kmip_wire.specs.Names.{kind_name}
use Rattle.kmip_wire.specs.Tree.{Tree, Trees, Scalar, scalar, structure, none, more, integer, long_integer, big_integer, enumeration, boolean, text_string, byte_string, date_time, interval}
use Rattle.kmip_tags.specs.Tags as tags
use Rattle.kmip_encodings.specs.Context.{place, named_after}
use Rattle.kmip_encodings.specs.Words.{tag_word}
use Rattle.kmip_encodings.specs.Texts.{hex_text, enumeration_text, date_text, mask_text}
use Rattle.kmip_encodings.specs.XmlGrammar.{is_xml_char}

-- U+FFFD, which stands for each character that XML lacks
abbrev pub replacement : List ℕ
replacement = 239 ∷ 191 ∷ 189 ∷ []

-- a character in the value of an attribute; white space but spaces by its number, since a reader
-- takes it for spaces
abbrev pub xml_char : ℕ → List ℕ
xml_char c =
    if c == 34 then codes "&quot;"
    else if c == 38 then codes "&amp;"
    else if c == 60 then codes "&lt;"
    else if c == 62 then codes "&gt;"
    else if c == 9 then codes "&#9;"
    else if c == 10 then codes "&#10;"
    else if c == 13 then codes "&#13;"
    else if is_xml_char c then encode_utf8 c
    else replacement

abbrev pub escaped : List ℕ → List ℕ
escaped cs = flat_map xml_char cs

abbrev pub attribute_xml : List ℕ → List ℕ → List ℕ
attribute_xml name value = 32 ∷ (name ++ 61 ∷ 34 ∷ (escaped (chars value) ++ 34 ∷ []))

-- a mask by the names of its bits, with a space between two, and any other number in decimal
abbrev pub integer_text : ℕ → ℤ → List ℕ
integer_text tag z = unwrap_or (mask_text (codes " ") tag z) (signed_decimal z)

-- the value of an item, whose names are looked up under the tag
abbrev pub value_text : ℕ → Scalar → List ℕ
value_text tag (integer z) = integer_text tag z
value_text tag (long_integer z) = signed_decimal z
value_text tag (big_integer b) = encode_upper b
value_text tag (enumeration n) = enumeration_text tag n
value_text tag (boolean b) = truth_shown b
value_text tag (text_string b) = b
value_text tag (byte_string b) = encode_upper b
value_text tag (date_time n) = date_text n
value_text tag (interval n) = decimal n

-- the name of the tag, or `TTLV` with the tag as an attribute where it has none
abbrev pub name_xml : Option (List ℕ) → ℕ → List ℕ
name_xml (Some word) tag = word
name_xml None tag =
    codes "TTLV" ++ attribute_xml (codes "tag") (hex_text (drop 1 (to_be_bytes w32 tag)))

abbrev pub start_xml : ℕ → List ℕ
start_xml tag = codes "<" ++ name_xml (tag_word tag) tag

abbrev pub end_xml : ℕ → List ℕ
end_xml tag = codes "</" ++ (unwrap_or (tag_word tag) (codes "TTLV") ++ codes ">")

abbrev pub item_xml : ℕ → Kind → List ℕ → List ℕ
item_xml tag kind value =
    start_xml tag ++ (attribute_xml (codes "type") (kind_name kind) ++
    (attribute_xml (codes "value") value ++ codes "/>"))

-- an element of the tag: an item that is no structure has its type and its value as attributes, and
-- a structure has an element for each of its items
abbrev mutual
  pub xml_at : ℕ → Tree → List ℕ
  xml_at named (scalar tag s) = item_xml tag (kind_of_scalar s) (value_text (place named tag) s)
  xml_at named (structure tag ts) =
      start_xml tag ++ (codes ">" ++ (items_xml tags.ATTRIBUTE_VALUE ts ++ end_xml tag))

  pub items_xml : ℕ → Trees → List ℕ
  items_xml named none = []
  items_xml named (more t ts) = xml_at named t ++ items_xml (named_after named t) ts

abbrev pub xml_of : Tree → List ℕ
xml_of t = xml_at tags.ATTRIBUTE_VALUE t
