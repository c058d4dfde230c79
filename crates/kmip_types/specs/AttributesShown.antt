-- The text of the attribute values that hold no record.
use Rattle.std.specs.Prelude.{ℕ, List, [], codes}
use Rattle.std.specs.Fmt.{decimal, signed_decimal}
use Rattle.kmip_shape.specs.declared.style.Style.{Style}
use Rattle.kmip_shape.specs.Shown.{always, word, text_in_style, bytes_in_style, date_in_style, truth_shown}
use Rattle.kmip_enums.specs.ObjectTypes.{object_type_line}
use Rattle.kmip_enums.specs.States.{state_line}
use Rattle.kmip_codes.specs.CryptographicAlgorithms.{cryptographic_algorithm_line}
use Rattle.kmip_types.specs.declared.attribute_value.AttributeValue.{AttributeValue}
use Rattle.kmip_types.specs.declared.attribute_value.AttributeValue.TheVariants.{Name, ObjectType, CryptographicAlgorithm, CryptographicParameters, State, ObjectGroup, Link, ApplicationSpecificInformation, ContactInformation, Structure, Integer, LongInteger, BigInteger, Enumeration, Boolean, TextString, ByteString, DateTime, Interval}
use Rattle.kmip_types.specs.declared.attribute_showing.Piece.{Piece}
use Rattle.kmip_types.specs.declared.attribute_showing.Piece.TheVariants as piece

-- the name of the variant
abbrev pub case_name : AttributeValue → List ℕ
case_name (Name x y) = codes "Name"
case_name (ObjectType x) = codes "ObjectType"
case_name (CryptographicAlgorithm x) = codes "CryptographicAlgorithm"
case_name (CryptographicParameters x) = codes "CryptographicParameters"
case_name (State x) = codes "State"
case_name (ObjectGroup x) = codes "ObjectGroup"
case_name (Link x y) = codes "Link"
case_name (ApplicationSpecificInformation x y) = codes "ApplicationSpecificInformation"
case_name (ContactInformation x) = codes "ContactInformation"
case_name (Structure x) = codes "Structure"
case_name (Integer x) = codes "Integer"
case_name (LongInteger x) = codes "LongInteger"
case_name (BigInteger x) = codes "BigInteger"
case_name (Enumeration x) = codes "Enumeration"
case_name (Boolean x) = codes "Boolean"
case_name (TextString x) = codes "TextString"
case_name (ByteString x) = codes "ByteString"
case_name (DateTime x) = codes "DateTime"
case_name (Interval x) = codes "Interval"

-- the text of the value, and none for a record
abbrev pub plain_in_style : AttributeValue → Style → List ℕ
plain_in_style (Name x y) = word []
plain_in_style (ObjectType x) = word (object_type_line x).name
plain_in_style (CryptographicAlgorithm x) = word (cryptographic_algorithm_line x).name
plain_in_style (CryptographicParameters x) = word []
plain_in_style (State x) = word (state_line x).name
plain_in_style (ObjectGroup x) = text_in_style x
plain_in_style (Link x y) = word []
plain_in_style (ApplicationSpecificInformation x y) = word []
plain_in_style (ContactInformation x) = text_in_style x
plain_in_style (Structure x) = word []
plain_in_style (Integer x) = always (signed_decimal x)
plain_in_style (LongInteger x) = always (signed_decimal x)
plain_in_style (BigInteger x) = bytes_in_style x
plain_in_style (Enumeration x) = always (decimal x)
plain_in_style (Boolean x) = always (truth_shown x)
plain_in_style (TextString x) = text_in_style x
plain_in_style (ByteString x) = bytes_in_style x
plain_in_style (DateTime x) = date_in_style x
plain_in_style (Interval x) = always (decimal x)

abbrev pub plain_text : Piece → Style → List ℕ
plain_text (piece.Word w) = word w.now
plain_text (piece.Chars s) = text_in_style s.now
plain_text (piece.Octets b) = bytes_in_style b.now
plain_text (piece.Signed z) = always (signed_decimal z)
plain_text (piece.Unsigned n) = always (decimal n)
plain_text (piece.Date n) = date_in_style n
plain_text (piece.Truth b) = always (truth_shown b)
