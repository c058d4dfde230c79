-- A maker as contracts see it, and what one call does to it.
use Rattle.std.specs.Prelude.{◌≡◌, ℕ, ◌+◌, ◌-◌, ◌^◌, ◌≤◌, min, List, ◌++◌, Bool, true, false, IsTrue, Option, Some, None, Result, Ok, Err}
use Rattle.std.specs.Option.{option_to_list}
use Rattle.kmip_store.specs.declared.maker.Asked.{Asked}
use Rattle.kmip_store.specs.declared.maker.Asked.TheVariants as questions
use Rattle.kmip_store.specs.declared.maker.Made.{Made}
use Rattle.kmip_store.specs.declared.maker.Made.TheVariants as answers
use Rattle.kmip_store.specs.declared.maker.MakerError.{MakerError}
use Rattle.kmip_store.specs.declared.maker.MakerError.TheVariants.{Fault, OutOfMemory}

pub record MakerState : Type 0 where
  -- whether `asked` and `given` record its calls; where not, no clause speaks of them
  pub tells : Bool
  -- its questions so far, and its answers to them
  pub asked : List Asked
  pub given : List Made
  -- how often it refused, up to 2^64 - 1
  pub faults : ℕ

-- a pair answers the question for a pair, and bytes answer the two others
abbrev pub is_of_kind : Asked → Made → Bool
is_of_kind (questions.KeyPair bits) (answers.Pair private public) = true
is_of_kind (questions.Random count) (answers.Bytes bytes) = true
is_of_kind (questions.Sign key contents) (answers.Bytes bytes) = true
is_of_kind _ _ = false

-- an answer to a question is of its kind, or a refusal
abbrev pub is_answer : Asked → Made → Bool
is_answer asked answers.Refused = true
is_answer asked made = is_of_kind asked made

-- The count of faults rose, or it stands at its last value, 2^64 - 1.
abbrev pub MakerFaultsRose : ℕ → ℕ → Type 0
MakerFaultsRose before now = min (before + 1) (2 ^ 64 - 1) ≤ now

-- what no call changes, and the count, which never falls
pub record MakerKeeps (before after : MakerState) : Type 0 where
  pub tells : after.tells ≡ before.tells
  pub faults : before.faults ≤ after.faults

-- The lists of a maker grew by a question, where there is one, and by the answer to it.
pub record MakerGrew (before after : MakerState) (question : Option Asked) (made : Option Made) : Type
    0 where
  pub asked : after.asked ≡ before.asked ++ option_to_list question
  pub given : after.given ≡ before.given ++ option_to_list made

-- One call of a maker with this question: it answered; or it refused, and its count of faults says
-- so; or memory ran out, and nothing was asked.
abbrev pub MakerCall :
    {T : Type 0} → (T → Made) → Asked → MakerState → MakerState → Result T MakerError → Type 0
MakerCall made question before after (Ok x) =
    IsTrue before.tells → MakerGrew before after (Some question) (Some (made x))
MakerCall made question before after (Err Fault) =
    (IsTrue before.tells → MakerGrew before after (Some question) (Some answers.Refused))
    × MakerFaultsRose before.faults after.faults
MakerCall made question before after (Err OutOfMemory) =
    IsTrue before.tells → MakerGrew before after None None
