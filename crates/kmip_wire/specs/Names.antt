-- The names of the types of items (KMIP 1.0, 9.1.1.2), without spaces.
use Rattle.std.specs.Prelude.{ℕ, List, codes}
use Rattle.kmip_wire.specs.declared.kind.Kind.{Kind}
use Rattle.kmip_wire.specs.declared.kind.Kind.TheVariants.{Structure, Integer, LongInteger, BigInteger, Enumeration, Boolean, TextString, ByteString, DateTime, Interval}

abbrev pub kind_name : Kind → List ℕ
kind_name Structure = codes "Structure"
kind_name Integer = codes "Integer"
kind_name LongInteger = codes "LongInteger"
kind_name BigInteger = codes "BigInteger"
kind_name Enumeration = codes "Enumeration"
kind_name Boolean = codes "Boolean"
kind_name TextString = codes "TextString"
kind_name ByteString = codes "ByteString"
kind_name DateTime = codes "DateTime"
kind_name Interval = codes "Interval"
