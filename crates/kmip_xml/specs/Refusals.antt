-- Why a text of XML is not read, for a person: nothing in it is of a value.
use Rattle.std.specs.Prelude.{◌≡◌, ℕ, ◌-◌, ◌==◌, ◌||◌, List, [], ◌++◌, length, codes, Option, Some, None, if◌then◌else◌}
use Rattle.std.specs.Option.{unwrap_or}
use Rattle.kmip_wire.specs.declared.kind.Kind.{Kind}
use Rattle.kmip_wire.specs.declared.kind.Kind.TheVariants.{Structure, Integer, LongInteger, BigInteger, Enumeration, Boolean, TextString, ByteString, DateTime, Interval}
use Rattle.kmip_tags.specs.Tags as tags
use Rattle.kmip_encodings.specs.Words.{tag_word}
use Rattle.kmip_encodings.specs.Expected.{number_words}
use Rattle.kmip_encodings.specs.Refusals.{line_of, column_of}
use Rattle.kmip_encodings.specs.declared.refusal.Refusal.{Refusal}
use Rattle.kmip_xml.specs.declared.error.Wanted.{Wanted}
use Rattle.kmip_xml.specs.declared.error.Wanted.TheVariants as wanted
use Rattle.kmip_xml.specs.declared.error.Misfit.{Misfit}
use Rattle.kmip_xml.specs.declared.error.XmlError.{XmlError}
use Rattle.kmip_xml.specs.declared.error.XmlError.TheVariants as errors

abbrev pub integer_words : ℕ → List ℕ
integer_words tag =
    if (tag == tags.CRYPTOGRAPHIC_USAGE_MASK) || (tag == tags.STORAGE_STATUS_MASK)
    then codes "names of bits as Encrypt Decrypt, a whole number, or 0x and eight hex digits"
    else codes "a whole number from -2147483648 to 2147483647, or 0x and eight hex digits"

-- a value of the type, which is no Enumeration
abbrev pub value_words : Kind → ℕ → List ℕ
value_words Structure tag = codes "elements in place of a value"
value_words Integer tag = integer_words tag
value_words LongInteger tag = codes "a whole number of 64 bits, or 0x and 16 hex digits"
value_words BigInteger tag = codes "hex digits, two for a byte"
value_words Enumeration tag = []
value_words Boolean tag = codes "true, false, or 0x and 16 hex digits"
value_words TextString tag = codes "a text"
value_words ByteString tag = codes "hex digits, two for a byte"
value_words DateTime tag = codes "a date as 2001-01-01T10:00:00+00:00, or 0x and 16 hex digits"
value_words Interval tag = codes "a whole number from 0 to 4294967295, or 0x and eight hex digits"

abbrev pub value_text : Kind → ℕ → List ℕ
value_text Enumeration tag = number_words tag
value_text kind tag = value_words kind tag

-- what was expected, where it is no value
abbrev pub wanted_words : Wanted → List ℕ
wanted_words wanted.Character = codes "a character that XML has"
wanted_words wanted.DeclarationEnd = codes "a declaration that ends with ?>"
wanted_words wanted.OneElement = codes "one element, and the end of the text behind it"
wanted_words wanted.Element = codes "an element, a comment, or the end of the element around"
wanted_words wanted.Comment = codes "a comment, with no -- but at its ends"
wanted_words wanted.ElementEnd = codes "the end of the element around"
wanted_words wanted.NoElement = codes "no element in one that has a value"
wanted_words wanted.Name =
    codes "the name of an element, since document types and processing instructions are not read"
wanted_words wanted.AttributeOrEnd = codes "> or /> or an attribute"
wanted_words wanted.AttributeName = codes "tag, type, value or name, each at most once"
wanted_words wanted.Equals = codes "= and the value of an attribute"
wanted_words wanted.Quotes = codes "a value in quotes"
wanted_words wanted.NoElementInValue = codes "no < in the value of an attribute"
wanted_words wanted.Reference =
    codes "&quot;, &amp;, &apos;, &lt;, &gt;, or the number of a character as &#10; or &#xA;"
wanted_words wanted.FewerLevels = codes "at most 64 levels of items"
wanted_words wanted.Tag =
    codes "the name of a tag, or TTLV with the attribute tag, which is 0x and six hex digits"
wanted_words wanted.Type =
    codes "a type: Structure, Integer, LongInteger, BigInteger, Enumeration, Boolean, TextString, ByteString, DateTime or Interval"
wanted_words (wanted.Value kind tag) = []

abbrev pub wanted_text : Wanted → List ℕ
wanted_text (wanted.Value kind tag) = value_text kind tag
wanted_text w = wanted_words w

-- the attribute that is at fault, where one is, with the full stop before it
abbrev pub attribute_of : Wanted → Option (List ℕ)
attribute_of wanted.Type = Some (codes ".type")
attribute_of (wanted.Value kind tag) = Some (codes ".value")
attribute_of w = None

-- the name of the elements of a tag, which are `TTLV` where the tag has none
abbrev pub element_word : Option ℕ → List ℕ
element_word (Some tag) = unwrap_or (tag_word tag) (codes "TTLV")
element_word None = codes "TTLV"

abbrev pub path_by : List ℕ → Option (List ℕ) → List ℕ
path_by name None = []
path_by name (Some attribute) = name ++ attribute

-- the way to an attribute of an element of the tag, as `BatchCount.value`
abbrev pub path_text : Option ℕ → Wanted → List ℕ
path_text tag w = path_by (element_word tag) (attribute_of w)

-- A refusal of a text: what was expected and the attribute follow from the error, in which no value
-- is, and the element's name from a tag; it stands at the line and the column where reading stopped;
-- and what was found is a form.
abbrev pub TellsMisfit : List ℕ → Misfit → Refusal → Type 0
TellsMisfit text misfit r =
    (r.line ≡ line_of text (length text - misfit.left))
    × (r.column ≡ column_of text (length text - misfit.left))
    × (r.expected ≡ wanted_text misfit.wanted)
    × ((tag : Option ℕ) × (r.path ≡ path_text tag misfit.wanted))

abbrev pub Tells : List ℕ → XmlError → Refusal → Type 0
Tells text (errors.Misfit misfit) r = TellsMisfit text misfit r
Tells text errors.OutOfMemory r = Unit {0}
