-- What a call of the store returns and leaves, by its step.
use Rattle.std.specs.Prelude.{◌≡◌, List, Option, Some, None, Bool, true, false, Result, Ok, Err, IsTrue}
use Rattle.kmip_store.specs.declared.object.Object.{Object}
use Rattle.kmip_store.specs.declared.error.StoreError.{StoreError}
use Rattle.kmip_store.specs.declared.error.StoreError.TheVariants.{ItemNotFound, PermissionDenied, CryptographicFailure, OutOfMemory}
use Rattle.kmip_store.specs.declared.maker.Asked.{Asked}
use Rattle.kmip_store.specs.declared.maker.Made.{Made}
use Rattle.kmip_store.specs.declared.maker.Made.TheVariants.{Refused}
use Rattle.kmip_store.specs.Makers.{MakerState, MakerGrew, MakerFaultsRose, is_answer}
use Rattle.kmip_store.specs.declared.call.Call.{Call}
use Rattle.kmip_store.specs.Steps.{Answer, NotFound, Denied, Failed, stay, step, question}

-- A call that asks no maker is its step. Where memory runs out, the objects are as before.
abbrev pub Steps :
    {T : Type 0} → (T → Answer) → List Object → Call → List Object → Result T StoreError → Type 0
Steps answer before call after (Ok x) = step before call None ≡ stay after (answer x)
Steps answer before call after (Err ItemNotFound) = step before call None ≡ stay after NotFound
Steps answer before call after (Err PermissionDenied) = step before call None ≡ stay after Denied
Steps answer before call after (Err CryptographicFailure) = ⊥
Steps answer before call after (Err OutOfMemory) = after ≡ before

-- There is an answer exactly where there is a question, of the question's kind or a refusal.
abbrev pub answers_question : Option Asked → Option Made → Bool
answers_question None None = true
answers_question (Some asked) (Some made) = is_answer asked made
answers_question _ _ = false

-- What a call that has this question, or none, got from the maker.
pub record IsGiven (question : Option Asked) (made : Option Made) (before after : MakerState) : Type
    0 where
  -- an answer exactly where there is a question, of the question's kind or a refusal
  pub fits : answers_question question made ≡ true
  -- a maker that tells was asked this question and gave this answer, and nothing else
  pub grew : IsTrue before.tells → MakerGrew before after question made
  -- any maker refuses only where its count of faults rose, or stands at its last value
  pub rose : made ≡ Some Refused → MakerFaultsRose before.faults after.faults

-- A call is its step with the maker's answer, and the maker was asked what the call asks, no more.
pub record IsStep (before : List Object) (call : Call) (after : List Object) (answer : Answer)
    (asked answered : MakerState) : Type 0 where
  -- the maker's answer, where the call asks it
  pub made : Option Made
  pub step_is : step before call made ≡ stay after answer
  pub given : IsGiven (question before call) made asked answered

-- A call that asks a maker. Where memory runs out, the objects are as before and nothing was asked.
abbrev pub StepsAsking :
    {T : Type 0} → (T → Answer) → List Object → Call → List Object → MakerState → MakerState →
    Result T StoreError → Type 0
StepsAsking answer before call after asked answered (Ok x) =
    IsStep before call after (answer x) asked answered
StepsAsking answer before call after asked answered (Err ItemNotFound) =
    IsStep before call after NotFound asked answered
StepsAsking answer before call after asked answered (Err PermissionDenied) =
    IsStep before call after Denied asked answered
StepsAsking answer before call after asked answered (Err CryptographicFailure) =
    IsStep before call after Failed asked answered × MakerFaultsRose asked.faults answered.faults
StepsAsking answer before call after asked answered (Err OutOfMemory) =
    (after ≡ before) × (IsTrue asked.tells → MakerGrew asked answered None None)
