-- A pair, whose two messages are made before the maker is asked.
use Rattle.std.proofs.Common.{◌≡◌, ◌+◌, ℕ, ℤ, List, length, refl, ◌∙◌, ap, sym, subst, Option, Some, None}
use Rattle.std.specs.Prelude.{Result, Ok, Err}
use Rattle.kmip_wire.specs.declared.error.WireError.{WireError}
use Rattle.kmip_response_write.specs.Settled.{IsHeld, response_bytes}
use Rattle.kmip_store.specs.Answers.{IsStep, StepsAsking}
use Rattle.kmip_store.specs.Makers.{MakerState}
use Rattle.kmip_store.specs.Objects.{identifier}
use Rattle.kmip_store.specs.Steps.{Answer, NotFound, Denied, Failed, Created, Stepped, create, step, question}
use Rattle.kmip_store.specs.declared.call.Call.{Call}
use Rattle.kmip_store.specs.declared.call.Call.TheVariants.{CreateRsaKeyPair}
use Rattle.kmip_store.specs.declared.error.StoreError.{StoreError}
use Rattle.kmip_store.specs.declared.error.StoreError.TheVariants as errors
use Rattle.kmip_store.specs.declared.maker.Made.{Made}
use Rattle.kmip_store.specs.declared.maker.Made.TheVariants as answers
use Rattle.kmip_store.specs.declared.object.Object.{Object}
use Rattle.kmip_server_core.specs.Items.{item_for, message_with}
use Rattle.kmip_server_core.specs.Served.{served_call}
use Rattle.kmip_server_core.specs.Answering.{IsItemWritten, answered, no_memory, AnswersCall, response_of_pair}
use Rattle.kmip_server_core.proofs.Answering.{message_told, objects_told}

-- a pair that was made has the next two identifiers
created_is : (objects : List Object) (bits : ℤ) (private public : List ℕ) (made : Option Made)
    (x y : List ℕ) → (create objects bits private public made).answer ≡ Created x y →
    (create objects bits private public made).answer
    ≡ Created (identifier (length objects)) (identifier (length objects + 1))
created_is objects bits private public (Some (answers.Pair a b)) x y h = refl
created_is objects bits private public (Some (answers.Bytes b)) x y h = absurd (cc)
created_is objects bits private public (Some answers.Refused) x y h = absurd (cc)
created_is objects bits private public None x y h = absurd (cc)

-- no pair is refused for an object
not_found : (objects : List Object) (bits : ℤ) (private public : List ℕ) (made : Option Made)
    → (create objects bits private public made).answer ≡ NotFound → ⊥
not_found objects bits private public (Some (answers.Pair a b)) h = cc
not_found objects bits private public (Some (answers.Bytes b)) h = cc
not_found objects bits private public (Some answers.Refused) h = cc
not_found objects bits private public None h = cc

not_denied : (objects : List Object) (bits : ℤ) (private public : List ℕ) (made : Option Made)
    → (create objects bits private public made).answer ≡ Denied → ⊥
not_denied objects bits private public (Some (answers.Pair a b)) h = cc
not_denied objects bits private public (Some (answers.Bytes b)) h = cc
not_denied objects bits private public (Some answers.Refused) h = cc
not_denied objects bits private public None h = cc

told_serves : (objects new : List Object) (call : Call) (time : ℤ) (before after : MakerState)
    (given answer : Answer) (bytes : List ℕ) (s : IsStep objects call new given before after) →
    (step objects call s.made).answer ≡ answer → IsItemWritten time (item_for call answer) bytes
    → AnswersCall call time objects before after new (Ok bytes)
told_serves objects new call time before after given answer bytes s is t =
    let same = message_told objects call s.made time answer (item_for call answer) is refl in
    answered s.made bytes s.given (subst IsHeld same t.0) (subst (λ m. response_bytes m ≡ Some bytes) same t.1) refl
    (sym (ap (λ (x : Stepped). x.objects) s.step_is) ∙ objects_told objects call s.made time)

pub pair_serves : (objects new : List Object) (bits : ℤ) (private public : List ℕ) (time : ℤ)
    (before after : MakerState) (r : Result (List ℕ × List ℕ) StoreError) (made refused : List ℕ) →
    StepsAsking (λ pair. Created pair.0 pair.1) objects (CreateRsaKeyPair bits private public) new before after r →
    IsItemWritten time (item_for (CreateRsaKeyPair bits private public)
    (Created (identifier (length objects)) (identifier (length objects + 1)))) made →
    IsItemWritten time (item_for (CreateRsaKeyPair bits private public) Failed) refused →
    AnswersCall (CreateRsaKeyPair bits private public) time objects before after new (response_of_pair r made refused)
pair_serves objects new bits private public time before after (Ok pair) made refused s t f =
    told_serves objects new (CreateRsaKeyPair bits private public) time before after
    (Created pair.0 pair.1) (Created (identifier (length objects))
    (identifier (length objects + 1))) made s
    (created_is objects bits private public s.made pair.0 pair.1 (ap (λ (x : Stepped). x.answer) s.step_is)) t
pair_serves objects new bits private public time before after (Err errors.CryptographicFailure) made refused s t f =
    told_serves objects new (CreateRsaKeyPair bits private public)
    time before after Failed Failed refused s.0 (ap (λ (x : Stepped). x.answer) (s.0).step_is) f
pair_serves objects new bits private public time before after (Err errors.ItemNotFound) made refused s t f =
    absurd (not_found objects bits private public s.made (ap (λ (x : Stepped). x.answer) s.step_is))
pair_serves objects new bits private public time before after (Err errors.PermissionDenied) made refused s t f =
    absurd (not_denied objects bits private public s.made (ap (λ (x : Stepped). x.answer) s.step_is))
pair_serves objects new bits private public time before after
    (Err errors.OutOfMemory) made refused s t f = no_memory refl s.0
