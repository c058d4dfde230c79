-- What a server returned, and what it did to its objects and its maker.
use Rattle.std.specs.Prelude.{◌≡◌, ℕ, ℤ, Bool, cond, List, Option, Some, None, Result, Ok, Err}
use Rattle.std.specs.Option.{option_map}
use Rattle.kmip_wire.specs.declared.error.WireError.{WireError}
use Rattle.kmip_wire.specs.declared.error.WireError.TheVariants.{NoForm, Malformed, OutOfMemory}
use Rattle.kmip_response.specs.declared.batch_item.BatchItem.{BatchItem}
use Rattle.kmip_response.specs.declared.message.ResponseMessage.{ResponseMessage}
use Rattle.kmip_response_write.specs.Settled.{IsHeld, response_bytes}
use Rattle.kmip_store.specs.Answers.{IsGiven}
use Rattle.kmip_store.specs.Makers.{MakerState}
use Rattle.kmip_store.specs.Steps.{Answer, NotFound, Denied, Failed, Done, question}
use Rattle.kmip_store.specs.declared.call.Call.{Call}
use Rattle.kmip_store.specs.declared.error.StoreError.{StoreError}
use Rattle.kmip_store.specs.declared.error.StoreError.TheVariants as errors
use Rattle.kmip_store.specs.declared.maker.Asked.{Asked}
use Rattle.kmip_store.specs.declared.maker.Made.{Made}
use Rattle.kmip_store.specs.declared.object.Object.{Object}
use Rattle.kmip_server_core.specs.Items.{item_for, message_with}
use Rattle.kmip_server_core.specs.Served.{Served, served_call}

-- what writing a response returned
abbrev pub IsWritten : ResponseMessage → Result (List ℕ) WireError → Type 0
IsWritten message (Ok bytes) = IsHeld message × (response_bytes message ≡ Some bytes)
IsWritten message (Err NoForm) = response_bytes message ≡ None
IsWritten message (Err Malformed) = ⊥
IsWritten message (Err OutOfMemory) = Unit {0}

-- the message of this time with this item is held, and written as these bytes
abbrev pub IsItemWritten : ℤ → BatchItem → List ℕ → Type 0
IsItemWritten time item bytes = IsWritten (message_with time item) (Ok bytes)

-- The maker was asked the question and gave an answer, and what is served with that answer was
-- done, and returned as bytes; or the message has no wire form, and the objects stay; or memory ran
-- out, and the objects stay.
pub data AnswersBy (question : Option Asked) (serve : Option Made → Served) (objects : List Object)
    (before after : MakerState) (new : List Object) (result : Result (List ℕ) WireError) : Type
    0 where
  answered : (made : Option Made) (bytes : List ℕ) → IsGiven question made before after →
      IsHeld (serve made).message → response_bytes (serve made).message ≡ Some bytes →
      result ≡ Ok bytes → new ≡ (serve made).objects →
      AnswersBy question serve objects before after new result
  no_form : (made : Option Made) → IsGiven question made before after →
      response_bytes (serve made).message ≡ None → result ≡ Err NoForm → new ≡ objects →
      AnswersBy question serve objects before after new result
  no_memory : result ≡ Err OutOfMemory → new ≡ objects →
      AnswersBy question serve objects before after new result

-- ---- results of the store

abbrev pub refusal_of : StoreError → Option Answer
refusal_of errors.ItemNotFound = Some NotFound
refusal_of errors.PermissionDenied = Some Denied
refusal_of errors.CryptographicFailure = Some Failed
refusal_of errors.OutOfMemory = None

-- a result as the answer of a step; none where memory ran out
abbrev pub step_answer : {T : Type 0} → (T → Answer) → Result T StoreError → Option Answer
step_answer answer (Ok x) = Some (answer x)
step_answer answer (Err error) = refusal_of error

-- the item reports what a call of the store returned
abbrev pub ItemReports : {T : Type 0} → (T → Answer) → Call → Result T StoreError → BatchItem → Type 0
ItemReports answer call result item = option_map (item_for call) (step_answer answer result) ≡ Some item

-- ---- a helper's call

-- what a server returned for the request of a helper's call, and did
abbrev pub AnswersCall : Call → ℤ → List Object → MakerState → MakerState → List Object →
    Result (List ℕ) WireError → Type 0
AnswersCall call time objects before after new result = AnswersBy (question objects call)
    (λ made. served_call objects call made time) objects before after new result

-- the same of a call that asks no maker
abbrev pub AnswersCallAlone : Call → ℤ → List Object → List Object → Result (List ℕ) WireError → Type 0
AnswersCallAlone call time objects new result =
    (maker : MakerState) → AnswersCall call time objects maker maker new result

-- the store's answer to a call that changes an object, by whether it has the object, and whether
-- the state of the object allows the call
abbrev pub change_answer : (Object → Bool) → Option Object → Answer
change_answer allows None = NotFound
change_answer allows (Some object) = cond (allows object) Done Denied

-- the response, unless the store ran out of memory for what it reports
abbrev pub response_of : Result (Unit {0}) StoreError → List ℕ → Result (List ℕ) WireError
response_of (Err errors.OutOfMemory) response = Err OutOfMemory
response_of _ response = Ok response

-- of two responses, one that reports a pair and one that refuses it, that which reports the store's
-- result
abbrev pub response_of_pair : Result (List ℕ × List ℕ) StoreError → List ℕ → List ℕ →
    Result (List ℕ) WireError
response_of_pair (Ok pair) made refused = Ok made
response_of_pair (Err errors.CryptographicFailure) made refused = Ok refused
response_of_pair (Err _) made refused = Err OutOfMemory
