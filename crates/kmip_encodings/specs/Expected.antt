-- What is expected of an item, in words: nothing in them is of a value.
use Rattle.std.specs.Prelude.{ℕ, ◌==◌, ◌&&◌, ◌||◌, nat_lt, nat_le, Bool, true, false, List, [], ◌∷◌, ◌++◌, length, codes, filter, flat_map, Option, Some, None, if◌then◌else◌, bytes_eq}
use Rattle.kmip_wire.specs.declared.kind.Kind.{Kind}
use Rattle.kmip_wire.specs.declared.kind.Kind.TheVariants.{Structure, Integer, LongInteger, BigInteger, Enumeration, Boolean, TextString, ByteString, DateTime, Interval}
use Rattle.kmip_tags.specs.Tags as tags
use Rattle.kmip_encodings.specs.declared.error.Expected.{Expected}
use Rattle.kmip_encodings.specs.declared.error.Expected.TheVariants as expected
use Rattle.kmip_encodings.specs.Lines.{Line, lines}
use Rattle.kmip_encodings.specs.Names.{enumeration_name}

abbrev pub is_name : Option (List ℕ) → List ℕ → Bool
is_name None name = false
is_name (Some written) name = bytes_eq written name

-- whether a line has the name that is written of its number, under the tag
abbrev pub is_written : ℕ → Line → Bool
is_written tag line = (line.0 == tag) && is_name (enumeration_name tag line.1.0) line.1.1

-- the lines of the enumeration under the tag, by the names that are written
unfoldable pub written_lines : ℕ → List Line
written_lines tag = filter (is_written tag) lines

abbrev pub one_if : Bool → ℕ
one_if true = 1
one_if false = 0

abbrev pub are_few : ℕ → Bool
are_few count = nat_lt 0 count && nat_le count 16

abbrev pub entry_of : Line → List ℕ
entry_of line = line.1.1 ++ codes ", "

-- the names of lines, with a comma and a space after each
abbrev pub listed : List Line → List ℕ
listed ls = flat_map entry_of ls

-- the name of a line that is written, and nothing of another
abbrev pub entry_if : Bool → Line → List ℕ
entry_if true line = entry_of line
entry_if false line = []

abbrev pub names_or : Bool → List Line → List ℕ
names_or true ls = listed ls
names_or false ls = codes "a name that its tag has, its number, "

-- a number of the enumeration under the tag, by its names where they are 1 to 16
abbrev pub number_words : ℕ → List ℕ
number_words tag =
    names_or (are_few (length (written_lines tag))) (written_lines tag)
    ++ codes "or 0x and eight hex digits"

abbrev pub integer_words : ℕ → List ℕ
integer_words tag =
    if (tag == tags.CRYPTOGRAPHIC_USAGE_MASK) || (tag == tags.STORAGE_STATUS_MASK)
    then codes "names of bits as Encrypt|Decrypt, a whole number, or 0x and eight hex digits"
    else codes "a whole number from -2147483648 to 2147483647, or 0x and eight hex digits"

-- a value of the type, which is no Enumeration
abbrev pub value_words : Kind → ℕ → List ℕ
value_words Structure tag = codes "an array of items, or null"
value_words Integer tag = integer_words tag
value_words LongInteger tag = codes "a whole number nearer to 0 than 2^53, or 0x and 16 hex digits"
value_words BigInteger tag =
    codes "a whole number nearer to 0 than 2^53, or 0x and hex digits, two for a byte"
value_words Enumeration tag = []
value_words Boolean tag = codes "true, false, or 0x and 16 hex digits"
value_words TextString tag = codes "a string"
value_words ByteString tag = codes "a string of hex digits, two for a byte"
value_words DateTime tag = codes "a date as 2001-01-01T10:00:00+00:00, or 0x and 16 hex digits"
value_words Interval tag = codes "a whole number from 0 to 4294967295, or 0x and eight hex digits"

abbrev pub value_text : Kind → ℕ → List ℕ
value_text Enumeration tag = number_words tag
value_text kind tag = value_words kind tag

-- what was expected, where it is no value
abbrev pub expected_words : Expected → List ℕ
expected_words expected.Object = codes "an object with tag, type and value"
expected_words expected.Members = codes "no member but tag, type, value and name"
expected_words expected.Tag = codes "the name of a tag, or 0x and six hex digits"
expected_words expected.Type =
    codes "a type: Structure, Integer, LongInteger, BigInteger, Enumeration, Boolean, TextString, ByteString, DateTime or Interval"
expected_words (expected.Value kind) = []
expected_words expected.FewerLevels = codes "at most 64 levels of items"

-- what was expected; names of numbers are those under the tag
abbrev pub expected_text : Expected → ℕ → List ℕ
expected_text (expected.Value kind) tag = value_text kind tag
expected_text e tag = expected_words e
