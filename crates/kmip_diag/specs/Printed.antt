-- The text of skeletons, for a printer's prefix.
use Rattle.std.specs.Prelude.{ℕ, ◌/◌, ◌%◌, Bool, true, false, List, [], ◌∷◌, ◌++◌, Option, Some, None, ◌==◌, if◌then◌else◌}
use Rattle.std.specs.Fmt.{digit_glyph, digits}
use Rattle.kmip_diag.specs.declared.token.Mark.{Mark}
use Rattle.kmip_diag.specs.declared.token.Mark.TheVariants.{Integer, LongInteger, BigInteger, Enumeration, Boolean, TextString, ByteString, DateTime, Interval}
use Rattle.kmip_diag.specs.Skeleton.{Skeleton, Skeletons, scalar, structure, none, more}

-- the last two hex digits, and the last six
abbrev pub two : ℕ → List ℕ
two n = digit_glyph true (n / 16 % 16) ∷ digit_glyph true (n % 16) ∷ []

unfoldable pub six : ℕ → List ℕ
six n = two (n / 0x1_0000) ++ two (n / 0x100) ++ two n

-- the upper 16 bits of the tag are the prefix
abbrev pub has_prefix : Option ℕ → ℕ → Bool
has_prefix (Some prefix) tag = tag / 0x100 == prefix
has_prefix None tag = false

abbrev pub printed_tag : Option ℕ → ℕ → List ℕ
printed_tag prefix tag = if has_prefix prefix tag then two tag else six tag

-- a letter for the type; `e`, the number in hex and `:` for an enumeration
abbrev pub printed_mark : Mark → List ℕ
printed_mark Integer = 105 ∷ []
printed_mark LongInteger = 108 ∷ []
printed_mark BigInteger = 98 ∷ []
printed_mark (Enumeration n) = 101 ∷ (digits 16 true n ++ 58 ∷ [])
printed_mark Boolean = 111 ∷ []
printed_mark TextString = 116 ∷ []
printed_mark ByteString = 120 ∷ []
printed_mark DateTime = 100 ∷ []
printed_mark Interval = 110 ∷ []

-- a structure's skeletons stand between `[` and `]`
abbrev mutual
  pub printed : Option ℕ → Skeleton → List ℕ
  printed prefix (scalar tag mark) = printed_tag prefix tag ++ printed_mark mark
  printed prefix (structure tag ts) =
      printed_tag prefix tag ++ (91 ∷ (printed_all prefix ts ++ 93 ∷ []))

  pub printed_all : Option ℕ → Skeletons → List ℕ
  printed_all prefix none = []
  printed_all prefix (more t ts) = printed prefix t ++ printed_all prefix ts
