-- The expansion of a printed text.
use Rattle.std.specs.Prelude.{◌≡◌, ℕ, suc, ◌+◌, ◌-◌, ◌≤◌, ◌^◌, Bool, true, ◌&&◌, List, [], length, Option, Some, None, nat_le, nat_lt, ◌==◌, if◌then◌else◌, bytes_eq}
use Rattle.kmip_wire.specs.declared.kind.Kind.TheVariants as kinds
use Rattle.kmip_diag.specs.declared.token.Mark.{Mark}
use Rattle.kmip_diag.specs.declared.token.Mark.TheVariants.{Enumeration}
use Rattle.kmip_diag.specs.declared.token.Token.{Token}
use Rattle.kmip_diag.specs.declared.token.Token.TheVariants.{Scalar, Open, Close}
use Rattle.kmip_diag.specs.Skeleton.{Skeleton, Skeletons, scalar, structure, none, more}
use Rattle.kmip_diag.specs.Printed.{printed_all}
use Rattle.kmip_diag.specs.Tokens.{AreSkeletons}
use Rattle.kmip_diag.specs.Reading.{read_all}
use Rattle.kmip_diag.specs.Lines.{line, mark_kind, data_text, all_lines}

-- no level is above 64
abbrev mutual
  pub IsWithin : Skeleton → ℕ → Type 0
  IsWithin (scalar tag mark) level = level ≤ 64
  IsWithin (structure tag ts) level = (level ≤ 64) × AreWithin ts (level + 1)

  pub AreWithin : Skeletons → ℕ → Type 0
  AreWithin none level = Unit {0}
  AreWithin (more t ts) level = IsWithin t level × AreWithin ts level

abbrev pub AreGood : Skeletons → ℕ → Type 0
AreGood ts level = AreSkeletons ts × AreWithin ts level

-- `text` is printed for skeletons, whose lines are `out`
abbrev pub IsExpansion : Option ℕ → List ℕ → List ℕ → Type 0
IsExpansion prefix text out =
    (ts : Skeletons) × AreGood ts 1 × (printed_all prefix ts ≡ text) × (out ≡ all_lines 0 ts)

-- `text` is printed for no skeletons
abbrev pub IsNoDiagnostic : Option ℕ → List ℕ → Type 0
IsNoDiagnostic prefix text = (ts : Skeletons) → AreGood ts 1 → printed_all prefix ts ≡ text → ⊥

-- the same by computing

abbrev pub is_mark : Mark → Bool
is_mark (Enumeration n) = nat_lt n (2 ^ 32)
is_mark _ = true

abbrev mutual
  pub is_good : Skeleton → ℕ → Bool
  is_good (scalar tag mark) level = nat_le level 64 && (nat_lt tag (2 ^ 24) && is_mark mark)
  is_good (structure tag ts) level =
      nat_le level 64 && (nat_lt tag (2 ^ 24) && are_good ts (level + 1))

  pub are_good : Skeletons → ℕ → Bool
  are_good none level = true
  are_good (more t ts) level = is_good t level && are_good ts level

-- the lines of what was read, if the text is printed for it
abbrev pub checked_lines : Option ℕ → List ℕ → Skeletons → Option (List ℕ)
checked_lines prefix text ts =
    if are_good ts 1 && bytes_eq (printed_all prefix ts) text then Some (all_lines 0 ts) else None

unfoldable pub expansion : Option ℕ → List ℕ → Option (List ℕ)
expansion prefix text = checked_lines prefix text (read_all (suc (length text)) prefix text).0

-- the line that a piece of the text gives, and the depth after it

abbrev pub token_line : ℕ → Token → List ℕ
token_line depth (Scalar tag mark) = line depth tag (mark_kind mark) (data_text mark)
token_line depth (Open tag) = line depth tag kinds.Structure []
token_line depth Close = []

abbrev pub next_depth : ℕ → Token → Option ℕ
next_depth depth (Scalar tag mark) = if nat_lt depth 64 then Some depth else None
next_depth depth (Open tag) = if nat_lt depth 64 then Some (depth + 1) else None
next_depth depth Close = if depth == 0 then None else Some (depth - 1)
