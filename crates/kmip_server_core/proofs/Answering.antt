-- From what was written to what was answered.
use Rattle.std.proofs.Common.{◌≡◌, ◌++◌, [], ◌∷◌, ℕ, ℤ, List, refl, ◌∙◌, ap, sym, subst, Option, Some, None, Bool, true, false}
use Rattle.std.specs.Prelude.{Result, Ok, Err, IsTrue}
use Rattle.std.specs.Option.{option_map}
use Rattle.kmip_shape.proofs.Parts.{none_some, some_same}
use Rattle.kmip_wire.specs.declared.error.WireError.{WireError}
use Rattle.kmip_wire.specs.declared.error.WireError.TheVariants.{NoForm, Malformed, OutOfMemory}
use Rattle.kmip_response.specs.declared.batch_item.BatchItem.{BatchItem}
use Rattle.kmip_response.specs.declared.message.ResponseMessage.{ResponseMessage}
use Rattle.kmip_response_write.specs.Settled.{IsHeld, response_bytes}
use Rattle.kmip_request_read.specs.Reading.{Request, request_read}
use Rattle.kmip_store.specs.Answers.{IsGiven, IsStep, StepsAsking}
use Rattle.kmip_store.specs.Makers.{MakerState}
use Rattle.kmip_store.proofs.Questions.{none_given}
use Rattle.kmip_store.specs.Steps.{Answer, Stepped, stay, step, question}
use Rattle.kmip_store.specs.declared.call.Call.{Call}
use Rattle.kmip_store.specs.declared.error.StoreError.{StoreError}
use Rattle.kmip_store.specs.declared.error.StoreError.TheVariants as errors
use Rattle.kmip_store.specs.declared.maker.Asked.{Asked}
use Rattle.kmip_store.specs.declared.maker.Made.{Made}
use Rattle.kmip_store.specs.declared.object.Object.{Object}
use Rattle.kmip_server_core.specs.Requests.{is_served, call_of}
use Rattle.kmip_server_core.specs.Items.{item_for, invalid_item, unsupported_item, unhelped_item, message_with}
use Rattle.kmip_server_core.specs.Served.{Served, served_call, served_request, served, asks_request, asks}
use Rattle.kmip_server_core.specs.Answering.{IsWritten, AnswersBy, answered, no_form, no_memory, step_answer, ItemReports, AnswersCall}

-- the same, where the question and what is served are seen otherwise
pub answers_as : (q q' : Option Asked) (s s' : Option Made → Served) (objects : List Object)
    (before after : MakerState) (new : List Object) (result : Result (List ℕ) WireError) →
    q ≡ q' → ((made : Option Made) → s made ≡ s' made)
    → AnswersBy q s objects before after new result
    → AnswersBy q' s' objects before after new result
answers_as q q' s s' objects before after new result same serves (answered made bytes given held formed is news) =
    answered made bytes (subst (λ x. IsGiven x made before after) same given)
    (subst (λ (x : Served). IsHeld x.message) (serves made) held)
    (subst (λ (x : Served). response_bytes x.message ≡ Some bytes) (serves made) formed) is
    (subst (λ (x : Served). new ≡ x.objects) (serves made) news)
answers_as q q' s s' objects before after new result same serves (no_form made given none is news) =
    no_form made (subst (λ x. IsGiven x made before after) same given)
    (subst (λ (x : Served). response_bytes x.message ≡ None) (serves made) none) is news
answers_as q q' s s' objects before after new result same serves (no_memory is news) = no_memory is news

-- an answer that changes no objects
pub written_still : (q : Option Asked) (s : Option Made → Served) (objects : List Object)
    (before after : MakerState) (made : Option Made) (result : Result (List ℕ) WireError) →
    IsGiven q made before after → objects ≡ (s made).objects → IsWritten (s made).message result
    → AnswersBy q s objects before after objects result
written_still q s objects before after made (Ok bytes) given stays w = answered made bytes given w.0 w.1 refl stays
written_still q s objects before after made (Err NoForm) given stays w = no_form made given w refl refl
written_still q s objects before after made (Err Malformed) given stays w = absurd w
written_still q s objects before after made (Err OutOfMemory) given stays w = no_memory refl refl

-- a message that was not written
pub unwritten : (q : Option Asked) (s : Option Made → Served) (objects : List Object)
    (before after : MakerState) (made : Option Made) (error : WireError) →
    IsGiven q made before after → IsWritten (s made).message (Err error)
    → AnswersBy q s objects before after objects (Err error)
unwritten q s objects before after made NoForm given w = no_form made given w refl refl
unwritten q s objects before after made Malformed given w = absurd w
unwritten q s objects before after made OutOfMemory given w = no_memory refl refl

-- ---- items and messages

pub tells_item : (call : Call) (o : Option Answer) (item : BatchItem)
    → option_map (item_for call) o ≡ Some item → (a : Answer) × (o ≡ Some a)
    × (item ≡ item_for call a)
tells_item call None item h = none_some _ h
tells_item call (Some a) item h = (a, refl, sym (some_same (item_for call a) item h))

pub message_told : (objects : List Object) (call : Call) (made : Option Made) (time : ℤ)
    (answer : Answer) (item : BatchItem) → (step objects call made).answer ≡ answer
    → item ≡ item_for call answer →
    message_with time item ≡ (served_call objects call made time).message
unfolding served_call
message_told objects call made time answer item is item_is =
    ap (message_with time) (item_is ∙ ap (item_for call) (sym is))

pub objects_told : (objects : List Object) (call : Call) (made : Option Made) (time : ℤ)
    → (step objects call made).objects ≡ (served_call objects call made time).objects
unfolding served_call
objects_told objects call made time = refl

-- ---- calls that ask the maker, and change no objects

asked_step : {T : Type 0} (answer : T → Answer) (objects : List Object) (call : Call)
    (new : List Object) (before after : MakerState) (r : Result T StoreError) (a : Answer) →
    StepsAsking answer objects call new before after r → step_answer answer r ≡ Some a
    → IsStep objects call new a before after
asked_step answer objects call new before after (Ok x) a s h =
    subst (λ y. IsStep objects call new y before after) (some_same (answer x) a h) s
asked_step answer objects call new before after (Err errors.ItemNotFound) a s h =
    subst (λ y. IsStep objects call new y before after) (some_same Answer.NotFound a h) s
asked_step answer objects call new before after (Err errors.PermissionDenied) a s h =
    subst (λ y. IsStep objects call new y before after) (some_same Answer.Denied a h) s
asked_step answer objects call new before after (Err errors.CryptographicFailure) a s h =
    subst (λ y. IsStep objects call new y before after) (some_same Answer.Failed a h) s.0
asked_step answer objects call new before after (Err errors.OutOfMemory) a s h = none_some _ h

step_serves : (objects new : List Object) (call : Call) (time : ℤ) (before after : MakerState)
    (a : Answer) (item : BatchItem) (result : Result (List ℕ) WireError) →
    IsStep objects call new a before after → new ≡ objects → item ≡ item_for call a
    → IsWritten (message_with time item) result
    → AnswersCall call time objects before after new result
step_serves objects new call time before after a item result s stays item_is w =
    subst (λ n. AnswersCall call time objects before after n result) (sym stays)
    (written_still (question objects call)
    (λ made. served_call objects call made time) objects before after s.made result
    (s.given)
    (sym stays ∙ (sym (ap (λ (x : Stepped). x.objects) s.step_is) ∙ objects_told objects call s.made time))
    (subst (λ m. IsWritten m result)
    (message_told objects call s.made time a item
    (ap (λ (x : Stepped). x.answer) s.step_is) item_is) w))

pub asking_serves : {T : Type 0} (answer : T → Answer) (objects new : List Object) (call : Call)
    (time : ℤ) (before after : MakerState) (r : Result T StoreError) (item : BatchItem)
    (result : Result (List ℕ) WireError) →
    StepsAsking answer objects call new before after r → new ≡ objects
    → ItemReports answer call r item → IsWritten (message_with time item) result
    → AnswersCall call time objects before after new result
asking_serves answer objects new call time before after r item result asks stays tells w =
    let t = tells_item call (step_answer answer r) item tells in
    step_serves objects new call time before after t.0 item result
    (asked_step answer objects call new before after r t.0 asks t.1) stays t.2 w

-- ---- calls that ask nobody, and change no objects

pub telling_serves : (objects : List Object) (call : Call) (time : ℤ) (maker : MakerState)
    (item : BatchItem) (result : Result (List ℕ) WireError) →
    question objects call ≡ None → (step objects call None).objects ≡ objects
    → item ≡ item_for call (step objects call None).answer
    → IsWritten (message_with time item) result →
    AnswersCall call time objects maker maker objects result
telling_serves objects call time maker item result none stays item_is w =
    written_still (question objects call) (λ made. served_call objects call made time) objects maker maker None result
    (subst (λ q. IsGiven q None maker maker) (sym none) (none_given maker))
    (sym stays ∙ objects_told objects call None time)
    (subst (λ m. IsWritten m result)
    (message_told objects call None time (step objects call None).answer item refl item_is) w)

-- ---- requests

-- a refusal, which asks nobody and changes nothing
pub refused_answers : (q : Option Asked) (s : Option Made → Served) (objects : List Object)
    (maker : MakerState) (message : ResponseMessage) (result : Result (List ℕ) WireError)
    → q ≡ None →
    message ≡ (s None).message → objects ≡ (s None).objects → IsWritten message result
    → AnswersBy q s objects maker maker objects result
refused_answers q s objects maker message result none is stays w =
    written_still q s objects maker maker None result
    (subst (λ x. IsGiven x None maker maker) (sym none) (none_given maker)) stays
    (subst (λ m. IsWritten m result) is w)

pub unsupported : (objects : List Object) (request : Request) (maker : MakerState) (time : ℤ)
    (result : Result (List ℕ) WireError) → is_served request.operation ≡ false →
    IsWritten (message_with time (unsupported_item request.operation)) result →
    AnswersBy (asks_request objects (Some request))
    (λ made. served_request objects (Some request) made time) objects maker maker objects result
unsupported objects request maker time result not w =
    refused_answers (asks_request objects (Some request))
    (λ made. served_request objects (Some request) made time) objects maker
    (message_with time (unsupported_item request.operation)) result (rw not refl) (rw not refl)
    (rw not refl) w

pub unhelped : (objects : List Object) (request : Request) (maker : MakerState) (time : ℤ)
    (result : Result (List ℕ) WireError) → is_served request.operation ≡ true
    → call_of request ≡ None →
    IsWritten (message_with time (unhelped_item request.operation)) result →
    AnswersBy (asks_request objects (Some request))
    (λ made. served_request objects (Some request) made time) objects maker maker objects result
unhelped objects request maker time result is none w =
    refused_answers (asks_request objects (Some request))
    (λ made. served_request objects (Some request) made time) objects maker
    (message_with time (unhelped_item request.operation)) result (rw (is, none) refl)
    (rw (is, none) refl) (rw (is, none) refl) w

pub helped : (objects : List Object) (request : Request) (call : Call) (before after : MakerState)
    (time : ℤ) (new : List Object) (result : Result (List ℕ) WireError)
    → is_served request.operation ≡ true → call_of request ≡ Some call →
    AnswersCall call time objects before after new result →
    AnswersBy (asks_request objects (Some request))
    (λ made. served_request objects (Some request) made time) objects before after new result
helped objects request call before after time new result is some a =
    answers_as (question objects call) (asks_request objects (Some request))
    (λ made. served_call objects call made time)
    (λ made. served_request objects (Some request) made time) objects before after new result
    (rw (is, some) refl) (λ made. rw (is, some) refl) a

-- ---- bytes

pub read_bytes : (objects : List Object) (b : List ℕ) (request : Option Request)
    (before after : MakerState) (time : ℤ) (new : List Object) (result : Result (List ℕ) WireError)
    → request_read b ≡ request →
    AnswersBy (asks_request objects request)
    (λ made. served_request objects request made time) objects before after new result →
    AnswersBy (asks objects b) (λ made. served objects b made time) objects before after new result
unfolding asks served
read_bytes objects b request before after time new result is a = rw is a

pub invalid_bytes : (objects : List Object) (b : List ℕ) (maker : MakerState) (time : ℤ)
    (result : Result (List ℕ) WireError) → request_read b ≡ None →
    IsWritten (message_with time invalid_item) result →
    AnswersBy (asks objects b) (λ made. served objects b made time) objects maker maker objects result
invalid_bytes objects b maker time result is w =
    read_bytes objects b None maker maker time objects result is
    (refused_answers (asks_request objects None)
    (λ made. served_request objects None made time) objects maker
    (message_with time invalid_item) result refl refl refl w)
