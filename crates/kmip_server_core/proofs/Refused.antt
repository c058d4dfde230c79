-- Items that tell why the store refused.
use Rattle.std.proofs.Common.{◌≡◌, refl, sym, ap, ◌∙◌, subst, List, ℕ, Some, None}
use Rattle.std.specs.Prelude.{Result, Ok, Err, IfOk}
use Rattle.std.specs.Option.{option_map}
use Rattle.kmip_wire.specs.declared.memory.OutOfMemory.{OutOfMemory}
use Rattle.kmip_enums.specs.declared.operation.Operation.{Operation}
use Rattle.kmip_response.specs.declared.batch_item.BatchItem.{BatchItem}
use Rattle.kmip_store.specs.Answers.{Steps}
use Rattle.kmip_store.specs.Steps.{Answer, Stepped, step}
use Rattle.kmip_store.specs.declared.call.Call.{Call}
use Rattle.kmip_store.specs.declared.call.Call.TheVariants.{GetKey}
use Rattle.kmip_store.specs.declared.error.StoreError.{StoreError}
use Rattle.kmip_store.specs.declared.error.StoreError.TheVariants as errors
use Rattle.kmip_store.specs.declared.object.Object.{Object}
use Rattle.kmip_enums.specs.declared.operation.Operation.TheVariants as operations
use Rattle.kmip_shape.proofs.Parts.{none_some, some_same}
use Rattle.kmip_server_core.specs.Requests.{call_operation}
use Rattle.kmip_server_core.specs.Items.{item_for}
use Rattle.kmip_server_core.specs.Answering.{refusal_of, ItemReports}

-- the item of a refusal tells it, whatever the rest of the call
pub refusals_tell : {T A : Type 0} (answer : T → Answer) (call : A → Call) (operation : Operation)
    (r : Result T StoreError) (error : StoreError) (result : Result BatchItem OutOfMemory)
    → r ≡ Err error →
    ((a : A) → call_operation (call a) ≡ operation)
    → IfOk result (λ item. (c : Call) → call_operation c ≡ operation
    → option_map (item_for c) (refusal_of error) ≡ Some item) →
    IfOk result (λ item. (a : A) → ItemReports answer (call a) r item)
refusals_tell answer call operation r error (Ok item) is of h =
    λ a. subst (λ x. ItemReports answer (call a) x item) (sym is) (h (call a) (of a))
refusals_tell answer call operation r error (Err e) is of h = h

pub refusal_tells : {T : Type 0} (answer : T → Answer) (call : Call) (operation : Operation)
    (r : Result T StoreError) (error : StoreError) (result : Result BatchItem OutOfMemory)
    → r ≡ Err error →
    call_operation call ≡ operation → IfOk result
    (λ item. (c : Call) → call_operation c ≡ operation
    → option_map (item_for c) (refusal_of error) ≡ Some item) →
    IfOk result (λ item. ItemReports answer call r item)
refusal_tells answer call operation r error (Ok item) is of h =
    subst (λ x. ItemReports answer call x item) (sym is) (h call of)
refusal_tells answer call operation r error (Err e) is of h = h

-- an object that is not told
got_nothing : (objects : List Object) (id : List ℕ) (answer : Answer) (item : BatchItem)
    → step objects (GetKey id) None ≡ record { objects = objects; answer = answer }
    → Some (item_for (GetKey id) answer) ≡ Some item →
    item ≡ item_for (GetKey id) (step objects (GetKey id) None).answer
got_nothing objects id answer item s h =
    sym (some_same (item_for (GetKey id) answer) item h)
    ∙ ap (item_for (GetKey id)) (sym (ap (λ (x : Stepped). x.answer) s))

pub get_refused : {T : Type 0} (answer : T → Answer) (objects : List Object) (id id' : List ℕ)
    (error : StoreError) (result : Result BatchItem OutOfMemory) → id' ≡ id
    → Steps answer objects (GetKey id') objects (Err error) →
    IfOk result (λ item. (c : Call) → call_operation c ≡ operations.Get
    → option_map (item_for c) (refusal_of error) ≡ Some item)
    → IfOk result (λ item. item ≡ item_for (GetKey id) (step objects (GetKey id) None).answer)
get_refused answer objects id id' errors.ItemNotFound (Ok item) same s h =
    got_nothing objects id Answer.NotFound item
    (subst (λ i. step objects (GetKey i) None
    ≡ record { objects = objects; answer = Answer.NotFound }) same s) (h (GetKey id) refl)
get_refused answer objects id id' errors.PermissionDenied (Ok item) same s h =
    got_nothing objects id Answer.Denied item
    (subst (λ i. step objects (GetKey i) None
    ≡ record { objects = objects; answer = Answer.Denied }) same s) (h (GetKey id) refl)
get_refused answer objects id id' errors.CryptographicFailure (Ok item) same s h = absurd s
get_refused answer objects id id' errors.OutOfMemory (Ok item) same s h = none_some _ (h (GetKey id) refl)
get_refused answer objects id id' error (Err e) same s h = h
