-- The lines of skeletons.
use Rattle.std.specs.Prelude.{true, ℕ, zero, suc, ◌+◌, List, [], ◌∷◌, ◌++◌, Option, Some, None, codes}
use Rattle.std.specs.Fmt.{digits}
use Rattle.kmip_wire.specs.Kinds.{code_of}
use Rattle.kmip_wire.specs.Names.{kind_name}
use Rattle.kmip_wire.specs.declared.kind.Kind as wire
use Rattle.kmip_wire.specs.declared.kind.Kind.TheVariants as kinds
use Rattle.kmip_tags.specs.Names.{name_of}
use Rattle.kmip_diag.specs.declared.token.Mark.{Mark}
use Rattle.kmip_diag.specs.declared.token.Mark.TheVariants.{Integer, LongInteger, BigInteger, Enumeration, Boolean, TextString, ByteString, DateTime, Interval}
use Rattle.kmip_diag.specs.Skeleton.{Skeleton, Skeletons, scalar, structure, none, more}
use Rattle.kmip_diag.specs.Printed.{two, six}

-- two spaces for each level below the root
abbrev pub indent : ℕ → List ℕ
indent zero = []
indent (suc n) = 32 ∷ 32 ∷ indent n

abbrev pub name_text : Option (List ℕ) → List ℕ
name_text (Some name) = name
name_text None = codes "Unknown"

abbrev pub mark_kind : Mark → wire.Kind
mark_kind Integer = kinds.Integer
mark_kind LongInteger = kinds.LongInteger
mark_kind BigInteger = kinds.BigInteger
mark_kind (Enumeration n) = kinds.Enumeration
mark_kind Boolean = kinds.Boolean
mark_kind TextString = kinds.TextString
mark_kind ByteString = kinds.ByteString
mark_kind DateTime = kinds.DateTime
mark_kind Interval = kinds.Interval

-- an enumeration's number is shown, and no other value
abbrev pub data_text : Mark → List ℕ
data_text (Enumeration n) = digits 16 true n
data_text _ = codes "<redacted>"

abbrev pub number_part : ℕ → List ℕ
number_part tag = codes " (0x" ++ (six tag ++ codes "), ")

abbrev pub tag_part : ℕ → List ℕ
tag_part tag = codes "Tag: " ++ (name_text (name_of tag) ++ number_part tag)

abbrev pub type_part : wire.Kind → List ℕ
type_part kind = codes
    "Type: " ++ (kind_name kind ++ (codes " (0x" ++ (two (code_of kind) ++ codes "), ")))

abbrev pub line : ℕ → ℕ → wire.Kind → List ℕ → List ℕ
line depth tag kind value =
    indent depth ++ (tag_part tag ++ (type_part kind ++ (codes "Data: " ++ (value ++ (10 ∷ [])))))

-- one line for each item, and a structure's line before those of its children
abbrev mutual
  pub lines_of : ℕ → Skeleton → List ℕ
  lines_of depth (scalar tag mark) = line depth tag (mark_kind mark) (data_text mark)
  lines_of depth (structure tag ts) = line depth tag kinds.Structure [] ++ all_lines (depth + 1) ts

  pub all_lines : ℕ → Skeletons → List ℕ
  all_lines depth none = []
  all_lines depth (more t ts) = lines_of depth t ++ all_lines depth ts
