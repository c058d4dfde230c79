-- Calls that change an object, each told before it is done.
use Rattle.std.proofs.Common.{◌≡◌, ℕ, ℤ, List, refl, ◌∙◌, ap, sym, subst, Option, Some, None, Bool, true, false, cond, not, ◌||◌}
use Rattle.std.specs.Prelude.{Result, Ok, Err}
use Rattle.std.specs.Option.{option_map}
use Rattle.kmip_shape.proofs.Parts.{some_same}
use Rattle.kmip_wire.specs.declared.error.WireError.{WireError}
use Rattle.kmip_response.specs.declared.batch_item.BatchItem.{BatchItem}
use Rattle.kmip_response_write.specs.Settled.{IsHeld, response_bytes}
use Rattle.kmip_store.specs.Answers.{Steps, IsGiven}
use Rattle.kmip_store.proofs.Questions.{none_given}
use Rattle.kmip_store.specs.Makers.{MakerState}
use Rattle.kmip_store.specs.Objects.{find_in, object_of, is_pre_active, is_active, is_destroyed}
use Rattle.kmip_store.specs.Steps.{Answer, Done, Denied, Stepped, stay, step_where, on_found, activate, revoke, destroy, rename, get, step, question}
use Rattle.kmip_store.specs.declared.call.Call.{Call}
use Rattle.kmip_store.specs.declared.call.Call.TheVariants.{ActivateKey, RevokeKey, DestroyKey, RenameKey, GetKey}
use Rattle.kmip_store.specs.declared.error.StoreError.{StoreError}
use Rattle.kmip_store.specs.declared.error.StoreError.TheVariants as errors
use Rattle.kmip_store.specs.declared.object.Object.{Object}
use Rattle.kmip_server_core.specs.Items.{item_for, message_with}
use Rattle.kmip_server_core.specs.Served.{served_call}
use Rattle.kmip_server_core.specs.Answering.{IsWritten, AnswersBy, answered, no_memory, step_answer, ItemReports, AnswersCall, change_answer, response_of}
use Rattle.kmip_server_core.proofs.Answering.{message_told, objects_told, unwritten}

-- ---- what is foretold is what the step answers

allowed_told : (b : Bool) (objects : List Object) (s : Stepped) → s.answer ≡ Done
    → cond b Done Denied ≡ (step_where b objects s).answer
allowed_told true objects s h = sym h
allowed_told false objects s h = refl

found_told : (f : Option (ℕ × Object)) (objects : List Object) (allows : Object → Bool) (act : ℕ → Object → Stepped) →
    ((place : ℕ) (object : Object) → cond (allows object) Done Denied ≡ (act place object).answer)
    → change_answer allows (option_map object_of f) ≡ (on_found f objects act).answer
found_told None objects allows act h = refl
found_told (Some at) objects allows act h = h at.0 at.1

pub activate_told : (objects : List Object) (id : List ℕ)
    → change_answer (λ object. is_pre_active object.state)
    (option_map object_of (find_in objects id)) ≡ (step objects (ActivateKey id) None).answer
activate_told objects id = found_told (find_in objects id) objects
    (λ object. is_pre_active object.state) (activate objects)
    (λ place object. allowed_told (is_pre_active object.state) objects _ refl)

pub revoke_told : (objects : List Object) (id : List ℕ)
    → change_answer (λ object. is_active object.state) (option_map object_of (find_in objects id))
    ≡ (step objects (RevokeKey id) None).answer
revoke_told objects id = found_told (find_in objects id) objects (λ object. is_active object.state)
    (revoke objects) (λ place object. allowed_told (is_active object.state) objects _ refl)

pub destroy_told : (objects : List Object) (id : List ℕ)
    → change_answer (λ object. not (is_active object.state || is_destroyed object.state))
    (option_map object_of (find_in objects id)) ≡ (step objects (DestroyKey id) None).answer
destroy_told objects id = found_told (find_in objects id) objects
    (λ object. not (is_active object.state || is_destroyed object.state)) (destroy objects)
    (λ place object. allowed_told (not (is_active object.state || is_destroyed object.state))
    objects _ refl)

pub rename_told : (objects : List Object) (id name : List ℕ)
    → change_answer (λ object. not (is_destroyed object.state))
    (option_map object_of (find_in objects id)) ≡ (step objects (RenameKey id name) None).answer
rename_told objects id name = found_told (find_in objects id) objects
    (λ object. not (is_destroyed object.state)) (rename name objects)
    (λ place object. allowed_told (not (is_destroyed object.state)) objects _ refl)

-- an object that is told stays
allowed_stays : (b : Bool) (objects : List Object) (answer : Answer)
    → (step_where b objects (stay objects answer)).objects ≡ objects
allowed_stays true objects answer = refl
allowed_stays false objects answer = refl

pub get_stays : (objects : List Object) (id : List ℕ) → (step objects (GetKey id) None).objects ≡ objects
get_stays objects id = go (find_in objects id)
  where
    go : (f : Option (ℕ × Object)) → (on_found f objects (get objects)).objects ≡ objects
    go None = refl
    go (Some at) = allowed_stays (not (is_destroyed (at.1).state)) objects (Answer.Got at.1)

-- ---- what is answered

-- the item tells the step's answer, where that was foretold
foretold_item : (call : Call) (f : Result (Unit {0}) StoreError) (answer : Answer)
    (item : BatchItem) → step_answer (λ _. Done) f ≡ Some answer
    → ItemReports (λ _. Done) call f item → item ≡ item_for call answer
foretold_item call f answer item says tells =
    let h : option_map (item_for call) (Some answer) ≡ Some item =
    subst (λ o. option_map (item_for call) o ≡ Some item) says tells in
    sym (some_same (item_for call answer) item h)

done_serves : (objects new : List Object) (call : Call) (time : ℤ) (maker : MakerState)
    (item : BatchItem) (bytes : List ℕ) → question objects call ≡ None →
    item ≡ item_for call (step objects call None).answer
    → IsWritten (message_with time item) (Ok bytes) → (step objects call None).objects ≡ new
    → AnswersCall call time objects maker maker new (Ok bytes)
done_serves objects new call time maker item bytes none item_is w news =
    let same = message_told objects call None time (step objects call None).answer item refl item_is in
    answered None bytes (subst (λ q. IsGiven q None maker maker) (sym none) (none_given maker))
    (subst IsHeld same w.0) (subst (λ m. response_bytes m ≡ Some bytes) same w.1) refl
    (sym news ∙ objects_told objects call None time)

-- a call that the store then did, or refused, or lacked memory for
pub changing_serves : (objects new : List Object) (call : Call) (time : ℤ) (maker : MakerState)
    (f r : Result (Unit {0}) StoreError) (item : BatchItem) (bytes : List ℕ)
    → question objects call ≡ None →
    step_answer (λ _. Done) f ≡ Some (step objects call None).answer
    → ItemReports (λ _. Done) call f item → IsWritten (message_with time item) (Ok bytes) →
    Steps (λ _. Done) objects call new r → AnswersCall call time objects maker maker new (response_of r bytes)
changing_serves objects new call time maker f (Ok x) item bytes none says tells w s =
    done_serves objects new call time maker item bytes none
    (foretold_item call f _ item says tells) w (ap (λ (x : Stepped). x.objects) s)
changing_serves objects new call time maker f
    (Err errors.ItemNotFound) item bytes none says tells w s =
    done_serves objects new call time maker item bytes none
    (foretold_item call f _ item says tells) w (ap (λ (x : Stepped). x.objects) s)
changing_serves objects new call time maker f
    (Err errors.PermissionDenied) item bytes none says tells w s =
    done_serves objects new call time maker item bytes none
    (foretold_item call f _ item says tells) w (ap (λ (x : Stepped). x.objects) s)
changing_serves objects new call time maker f
    (Err errors.CryptographicFailure) item bytes none says tells w s = absurd s
changing_serves objects new call time maker f (Err errors.OutOfMemory) item bytes none says tells w s = no_memory refl s

-- a call whose message was not written
pub unchanged_serves : (objects : List Object) (call : Call) (time : ℤ) (maker : MakerState)
    (f : Result (Unit {0}) StoreError) (item : BatchItem) (error : WireError)
    → question objects call ≡ None →
    step_answer (λ _. Done) f ≡ Some (step objects call None).answer
    → ItemReports (λ _. Done) call f item → IsWritten (message_with time item) (Err error) →
    AnswersCall call time objects maker maker objects (Err error)
unchanged_serves objects call time maker f item error none says tells w =
    unwritten (question objects call) (λ made. served_call objects call made time) objects maker maker None error
    (subst (λ q. IsGiven q None maker maker) (sym none) (none_given maker))
    (subst (λ m. IsWritten m (Err error))
    (message_told objects call None time (step objects call None).answer item refl
    (foretold_item call f _ item says tells)) w)
