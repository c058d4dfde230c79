-- A maker whose answers, and whose refusals, are planned.
use Rattle.std.specs.Prelude.{◌≡◌, ℕ, ◌+◌, ◌-◌, ◌^◌, min, true, ◌==◌, cond, List, [], ◌∷◌, ◌++◌, length, drop, slice_get, Option, Some, None, Result, Ok, Err}
use Rattle.std.specs.List.{list_any}
use Rattle.kmip_store.specs.Makers.{MakerState, is_of_kind}
use Rattle.kmip_store.specs.declared.maker.Asked.{Asked}
use Rattle.kmip_store.specs.declared.maker.Made.{Made}
use Rattle.kmip_store.specs.declared.maker.Made.TheVariants.{Refused}
use Rattle.kmip_store.specs.declared.maker.MakerError.{MakerError}
use Rattle.kmip_store.specs.declared.maker.MakerError.TheVariants.{Fault, OutOfMemory}

pub record PlannedMemory : Type 0 where
  -- the answers that are left, in order
  pub answers : List Made
  -- the numbers of the calls to refuse; a call is numbered by how many questions came before it
  pub failing : List ℕ
  pub asked : List Asked
  pub given : List Made
  -- how often it refused, up to 2^64 - 1
  pub faults : ℕ

-- the planned maker as contracts see it: it always tells
abbrev pub planned_state : PlannedMemory → MakerState
planned_state m =
    record { tells = true; asked = m.asked; given = m.given; faults = m.faults }

-- the answer that is next; none where the call is planned to be refused
abbrev pub next_made : PlannedMemory → Option Made
next_made m =
    cond (list_any (λ n. n == length m.asked) m.failing) None (slice_get m.answers 0)

-- a question is refused where no answer of its kind is next
abbrev pub planned_answer : Asked → Option Made → Made
planned_answer asked None = Refused
planned_answer asked (Some made) = cond (is_of_kind asked made) made Refused

-- a count that stops at its last value, 2^64 - 1
abbrev pub next_count : ℕ → ℕ
next_count n = min (n + 1) (2 ^ 64 - 1)

-- what is left of the answers: a refusal uses up none
abbrev pub left_after : List Made → Made → List Made
left_after answers Refused = answers
left_after answers made = drop 1 answers

abbrev pub faults_after : ℕ → Made → ℕ
faults_after faults Refused = next_count faults
faults_after faults made = faults

-- what is kept once a question got its answer
abbrev pub after : PlannedMemory → Asked → Made → PlannedMemory
after m asked made = record {
  answers = left_after m.answers made;
  failing = m.failing;
  asked = m.asked ++ asked ∷ [];
  given = m.given ++ made ∷ [];
  faults = faults_after m.faults made;
}

-- the maker answered a question with what was planned, and kept that
pub record AnsweredAsPlanned (before now : PlannedMemory) (asked : Asked) (made : Made) : Type 0 where
  pub planned : planned_answer asked (next_made before) ≡ made
  pub kept : now ≡ after before asked made

-- One call of the maker, as it was planned; where memory runs out, nothing changes.
abbrev pub IsPlanned :
    {T : Type 0} → (T → Made) → Asked → PlannedMemory → PlannedMemory → Result T MakerError → Type 0
IsPlanned made asked before now (Ok x) = AnsweredAsPlanned before now asked (made x)
IsPlanned made asked before now (Err Fault) = AnsweredAsPlanned before now asked Refused
IsPlanned made asked before now (Err OutOfMemory) = now ≡ before
