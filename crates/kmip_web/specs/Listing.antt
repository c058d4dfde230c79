-- The items of any bytes with their values, one a line.
use Rattle.std.specs.Prelude.{ℕ, ◌+◌, ◌==◌, ◌&&◌, Bool, true, List, [], ◌∷◌, ◌++◌, Option, Some, None, codes, if◌then◌else◌, nat_le, not}
use Rattle.std.specs.Char.{encode_utf8}
use Rattle.std.specs.Str.{chars}
use Rattle.std.specs.Fmt.{decimal, digits, signed_decimal}
use Rattle.std.specs.Int.{w64, cast_signed}
use Rattle.hex.specs.Hex.{encode_upper}
use Rattle.kmip_wire.specs.declared.kind.Kind.{Kind}
use Rattle.kmip_wire.specs.declared.kind.Kind.TheVariants.{Structure}
use Rattle.kmip_wire.specs.Tree.{Tree, Trees, Scalar, scalar, structure, none, more, integer, long_integer, big_integer, enumeration, boolean, text_string, byte_string, date_time, interval}
use Rattle.kmip_wire.specs.Kinds.{kind_of_scalar}
use Rattle.kmip_tags.specs.Tags as tags
use Rattle.kmip_tags.specs.Names.{name_of}
use Rattle.kmip_encodings.specs.Context.{place, named_after}
use Rattle.kmip_encodings.specs.Names.{enumeration_name}
use Rattle.kmip_encodings.specs.Texts.{mask_text}
use Rattle.kmip_wire.specs.Names.{kind_name}
use Rattle.kmip_diag.specs.Lines.{name_text}
use Rattle.kmip_diag.specs.Diagnostic.{Shown, ended, stopped, item, cut_off, shown_within}
use Rattle.kmip_encodings.specs.Sizes.{size_of}

-- a character stands for itself; a control character of ASCII and `\` are written as `\` and two
-- hex digits
abbrev pub is_plain : ℕ → Bool
is_plain c = nat_le 32 c && (not (c == 92) && not (c == 127))

abbrev pub escaped_char : ℕ → List ℕ
escaped_char c = if is_plain c then encode_utf8 c else codes "\\" ++ encode_upper (c ∷ [])

abbrev pub escaped : List ℕ → List ℕ
escaped [] = []
escaped (c ∷ cs) = escaped_char c ++ escaped cs

abbrev pub flag_text : Bool → List ℕ
flag_text flag = if flag then codes "true" else codes "false"

-- a space and the name, where there is one
abbrev pub named : Option (List ℕ) → List ℕ
named None = []
named (Some name) = codes " " ++ name

-- the value of an item whose names are looked up under the tag: numbers in decimal, a mask's with
-- the names of its bits and in hex those that have none, an enumeration's in hex with its name, bytes
-- as hex digits
abbrev pub value_text : ℕ → Scalar → List ℕ
value_text tag (integer z) = signed_decimal z ++ named (mask_text (codes " ") tag z)
value_text tag (long_integer z) = signed_decimal z
value_text tag (big_integer b) = encode_upper b
value_text tag (enumeration n) =
    codes "0x" ++ (digits 16 true n ++ named (enumeration_name tag n))
value_text tag (boolean b) = flag_text b
value_text tag (text_string b) = escaped (chars b)
value_text tag (byte_string b) = encode_upper b
value_text tag (date_time n) = signed_decimal (cast_signed w64 n)
value_text tag (interval n) = decimal n

-- where the item begins, its tag in hex, its name, its type: a tab after each
abbrev pub head_text : ℕ → ℕ → Kind → List ℕ
head_text at tag kind =
    decimal at ++ (codes "\t" ++ (digits 16 true tag ++ (codes "\t" ++ (name_text (name_of tag)
    ++ (codes "\t" ++ (kind_name kind ++ codes "\t"))))))

-- a line for each item; a structure's line, those of its items, and a line that closes it. The
-- names of a value are looked up as in the JSON: under Attribute Value by the Attribute Name before it
abbrev mutual
  pub listed : ℕ → ℕ → Tree → List ℕ
  listed at named (scalar tag s) = head_text at tag (kind_of_scalar s)
      ++ (value_text (place named tag) s ++ codes "\n")
  listed at named (structure tag ts) = head_text at tag Structure
      ++ (codes "\n" ++ (all_listed (at + 8) tags.ATTRIBUTE_VALUE ts ++ codes "]\n"))

  pub all_listed : ℕ → ℕ → Trees → List ℕ
  all_listed at named none = []
  all_listed at named (more t ts) =
      listed at named t ++ all_listed (at + size_of t) (named_after named t) ts

-- what bytes from `at` on show: their items, and of a structure that is cut off its own line and
-- what is there of its contents
abbrev pub shown_listed : ℕ → ℕ → Shown → List ℕ
shown_listed at named ended = []
shown_listed at named stopped = []
shown_listed at named (item t s) =
    listed at named t ++ shown_listed (at + size_of t) (named_after named t) s
shown_listed at named (cut_off tag s) = head_text at tag Structure
    ++ (codes "\n" ++ shown_listed (at + 8) tags.ATTRIBUTE_VALUE s)

unfoldable pub listing : List ℕ → List ℕ
listing bytes = shown_listed 0 tags.ATTRIBUTE_VALUE (shown_within 1 bytes)
