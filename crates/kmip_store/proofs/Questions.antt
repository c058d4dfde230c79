-- Calls that ask a maker, as steps.
use Rattle.std.proofs.Common.{◌≡◌, ℕ, ◌+◌, ℤ, true, List, [], ◌∷◌, ◌++◌, length, Option, Some, None, refl, sym, subst, append-nil}
use Rattle.std.specs.Prelude.{IsTrue, Result, Ok, Err}
use Rattle.kmip_enums.specs.declared.object_type.ObjectType.TheVariants.{PublicKey, PrivateKey}
use Rattle.kmip_store.specs.declared.object.Object.{Object}
use Rattle.kmip_store.specs.declared.maker.Asked.{Asked}
use Rattle.kmip_store.specs.declared.maker.Asked.TheVariants as questions
use Rattle.kmip_store.specs.declared.maker.Made.{Made}
use Rattle.kmip_store.specs.declared.maker.Made.TheVariants.{Pair, Refused}
use Rattle.kmip_store.specs.declared.error.StoreError.{StoreError}
use Rattle.std.specs.Result.{IsErrAnd}
use Rattle.kmip_store.specs.declared.maker.MakerError.{MakerError}
use Rattle.kmip_store.specs.declared.maker.MakerError.TheVariants.{Fault, OutOfMemory}
use Rattle.kmip_store.specs.Errors.{store_error}
use Rattle.kmip_store.specs.Makers.{MakerState, MakerGrew, MakerFaultsRose, MakerCall, is_answer}
use Rattle.kmip_store.specs.Objects.{find_in, identifier}
use Rattle.kmip_store.specs.declared.call.Call.{Call}
use Rattle.kmip_store.specs.declared.call.Call.TheVariants.{CreateRsaKeyPair, Sign}
use Rattle.kmip_store.specs.Steps.{Answer, Signed, Created, Failed, stay, step, question, can_sign, key_of, made_bytes}
use Rattle.kmip_store.specs.Answers.{answers_question, IsGiven, IsStep, StepsAsking}

-- a call that put this question to the maker and got this answer
given_by : (asks : Asked) (made : Made) (question : Option Asked) (asked answered : MakerState)
    → question ≡ Some asks → is_answer asks made ≡ true
    → (IsTrue asked.tells → MakerGrew asked answered (Some asks) (Some made))
    → (made ≡ Refused → MakerFaultsRose asked.faults answered.faults) → IsGiven question (Some made) asked answered
given_by asks made question asked answered e k t r = record {
  fits = subst (λ (o : Option Asked). answers_question o (Some made) ≡ true) (sym e) k;
  grew = λ h. subst (λ (o : Option Asked). MakerGrew asked answered o (Some made)) (sym e) (t h);
  rose = λ is. r (cc);
}

-- and the maker gave what was asked for
pub made_step : (before : List Object) (call : Call) (after : List Object) (answer : Answer)
    (asked answered : MakerState) (asks : Asked) (made : Made) → question before call ≡ Some asks
    → is_answer asks made ≡ true → (made ≡ Refused → ⊥)
    → step before call (Some made) ≡ stay after answer
    → (IsTrue asked.tells → MakerGrew asked answered (Some asks) (Some made))
    → IsStep before call after answer asked answered
made_step before call after answer asked answered asks made e k n s t = record {
  made = Some made;
  step_is = s;
  given = given_by asks made (question before call) asked answered e k t (λ is. absurd (n is));
}

-- or it gave nothing
pub no_step : {T R : Type 0} (answer : R → Answer) (made : T → Made) (objects : List Object)
    (call : Call) (asked answered : MakerState) (asks : Asked) (error : MakerError)
    → question objects call ≡ Some asks
    → step objects call (Some Refused) ≡ stay objects Failed
    → MakerCall made asks asked answered (Err error)
    → StepsAsking answer objects call objects asked answered (Err (store_error error))
no_step answer made objects call asked answered asks Fault e s h = (
  record {
    made = Some Refused;
    step_is = s;
    given =
        given_by asks Refused (question objects call) asked answered e refl h.0 (λ is. h.1);
  },
  h.1,
)
no_step answer made objects call asked answered asks OutOfMemory e s h = (refl, h)

-- and so a `?` returned
pub no_result : {T R : Type 0} (answer : R → Answer) (made : T → Made) (objects : List Object)
    (call : Call) (asked answered : MakerState) (asks : Asked) (error : MakerError)
    (r : Result R StoreError) → question objects call ≡ Some asks
    → step objects call (Some Refused) ≡ stay objects Failed
    → MakerCall made asks asked answered (Err error) → IsErrAnd r (λ e. e ≡ store_error error)
    → StepsAsking answer objects call objects asked answered r
no_result answer made objects call asked answered asks error (Ok x) e s h so = absurd so
no_result answer made objects call asked answered asks error (Err f) e s h so =
    subst (λ (x : StoreError). StepsAsking answer objects call objects asked answered (Err x))
    (sym so) (no_step answer made objects call asked answered asks error e s h)

-- where nothing is asked
pub nothing_asked : (maker : MakerState) → MakerGrew maker maker None None
nothing_asked maker = record { asked = sym (append-nil maker.asked); given = sym (append-nil maker.given) }

pub none_given : (maker : MakerState) → IsGiven None None maker maker
none_given maker = record { fits = refl; grew = λ tells. nothing_asked maker; rose = λ is. absurd (cc) }

-- a signature is asked of the key of the object that is found
pub sign_asks : (objects : List Object) (id bytes : List ℕ) (place : ℕ) (object : Object)
    → find_in objects id ≡ Some (place, object) → can_sign object ≡ true
    → question objects (Sign id bytes) ≡ Some (questions.Sign object.key bytes)
sign_asks objects id bytes place object f s = rw (f, s) refl

pub sign_step : (objects : List Object) (id bytes : List ℕ) (place : ℕ) (object : Object)
    (made : Made) → find_in objects id ≡ Some (place, object) → can_sign object ≡ true
    → step objects (Sign id bytes) (Some made) ≡ stay objects (made_bytes Signed (Some made))
sign_step objects id bytes place object made f s = rw (f, s) refl

-- two keys that were added
pub create_step : (objects after : List Object) (bits : ℤ)
    (private public a b first second : List ℕ)
    → after ≡ objects ++ key_of PrivateKey private bits a ∷ key_of PublicKey public bits b ∷ []
    → first ≡ identifier (length objects) → second ≡ identifier (length objects + 1)
    → step objects (CreateRsaKeyPair bits private public) (Some (Pair a b)) ≡ stay after (Created first second)
create_step objects after bits private public a b first second e f s = rw (e, f, s) refl
