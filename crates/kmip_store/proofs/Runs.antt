-- What many calls leave as it was, and the identifiers that they give.
use Rattle.std.proofs.Common.{◌≡◌, ◌⊎◌, inl, inr, ℕ, ◌+◌, ◌^◌, ◌<◌, ◌≤◌, zero, suc, Bool, true, false, not, ◌||◌, List, [], ◌∷◌, ◌++◌, length, Option, Some, None, refl, sym, ◌∙◌, arith, length-append}
use Rattle.std.specs.Prelude.{bytes_eq, slice_get}
use Rattle.std.specs.List.{IsDistinct, AllByRecursion}
use Rattle.std.proofs.lemmas.Fmt.{decimal_injective}
use Rattle.kmip_store.specs.declared.object.Object.{Object}
use Rattle.kmip_store.specs.declared.maker.Made.{Made}
use Rattle.kmip_store.specs.declared.maker.Made.TheVariants as answers
use Rattle.kmip_store.specs.Objects.{identifier, find_in, is_pre_active, is_active, is_destroyed}
use Rattle.kmip_store.specs.declared.call.Call.{Call}
use Rattle.kmip_store.specs.declared.call.Call.TheVariants.{Query, CreateRsaKeyPair, RngRetrieve, Sign, ActivateKey, RevokeKey, DestroyKey, RenameKey, GetKey}
use Rattle.kmip_store.specs.Steps.{Answer, Got, Stepped, stay, become, step_where, on_found, step, get, can_sign, made_bytes}
use Rattle.kmip_enums.specs.declared.state.State.TheVariants.{Active, Deactivated, Destroyed}
use Rattle.kmip_store.specs.Runs.{AnsweredCall, objects_after, new_identifiers, identifiers_given}
use Rattle.kmip_store.proofs.Identifiers.{other_bytes}
use Rattle.kmip_store.proofs.Kept.{destroyed_kept, never_fewer}

pub run_keeps : (objects : List Object) (calls : List AnsweredCall) (place : ℕ) (object : Object)
    → slice_get objects place ≡ Some object → is_destroyed object.state ≡ true
    → slice_get (objects_after objects calls) place ≡ Some object
run_keeps objects [] place object h d = h
run_keeps objects (it ∷ calls) place object h d =
    run_keeps (step objects it.call it.made).objects calls place object
    (destroyed_kept objects it.call it.made place object h d) d

-- ---- what one call gives

-- the identifiers of as many objects, from this place on
abbrev numbered : ℕ → ℕ → List (List ℕ)
numbered place zero = []
numbered place (suc n) = identifier place ∷ numbered (place + 1) n

-- a call gives no identifier, or those of the next two places, which its objects then have
abbrev Gives : List Object → Stepped → Type 0
Gives objects s = (new_identifiers s.answer ≡ [])
    ⊎ ((new_identifiers s.answer ≡ numbered (length objects) 2)
    × (length s.objects ≡ length objects + 2))

allowed_gives : (b : Bool) (objects : List Object) (s : Stepped) → new_identifiers s.answer ≡ []
    → new_identifiers (step_where b objects s).answer ≡ []
allowed_gives true objects s h = h
allowed_gives false objects s h = refl

found_gives : (f : Option (ℕ × Object)) (objects : List Object) (act : ℕ → Object → Stepped)
    → ((k : ℕ) (object : Object) → new_identifiers (act k object).answer ≡ [])
    → new_identifiers (on_found f objects act).answer ≡ []
found_gives None objects act h = refl
found_gives (Some at) objects act h = h at.0 at.1

bytes_give : (make : List ℕ → Answer) (made : Option Made)
    → ((bytes : List ℕ) → new_identifiers (make bytes) ≡ [])
    → new_identifiers (made_bytes make made) ≡ []
bytes_give make None h = refl
bytes_give make (Some (answers.Pair a b)) h = refl
bytes_give make (Some (answers.Bytes b)) h = h b
bytes_give make (Some answers.Refused) h = refl

changed : (test : Object → Bool) (new : Object → Object) (objects : List Object) (id : List ℕ)
    → new_identifiers (on_found (find_in objects id) objects
    (λ k o. step_where (test o) objects (become objects k (new o)))).answer ≡ []
changed test new objects id = found_gives (find_in objects id) objects _
    (λ k o. allowed_gives (test o) objects (become objects k (new o)) refl)

step_gives : (objects : List Object) (call : Call) (made : Option Made) → Gives objects (step objects call made)
step_gives objects Query made = inl refl
step_gives objects (CreateRsaKeyPair bits private public) None = inl refl
step_gives objects (CreateRsaKeyPair bits private public) (Some (answers.Pair a b)) =
    inr (refl, omega (arith, length-append {A = Object}))
step_gives objects (CreateRsaKeyPair bits private public) (Some (answers.Bytes b)) = inl refl
step_gives objects (CreateRsaKeyPair bits private public) (Some answers.Refused) = inl refl
step_gives objects (RngRetrieve n) made = inl (bytes_give _ made (λ bytes. refl))
step_gives objects (Sign id bytes) made =
    inl (found_gives (find_in objects id) objects _
    (λ k object. allowed_gives (can_sign object) objects _ (bytes_give _ made (λ b. refl))))
step_gives objects (ActivateKey id) made =
    inl (changed (λ o. is_pre_active o.state) (λ o. record o { state = Active }) objects id)
step_gives objects (RevokeKey id) made =
    inl (changed (λ o. is_active o.state) (λ o. record o { state = Deactivated }) objects id)
step_gives objects (DestroyKey id) made =
    inl (changed (λ o. not (is_active o.state || is_destroyed o.state))
    (λ o. record o { state = Destroyed; key = [] }) objects id)
step_gives objects (RenameKey id name) made =
    inl (changed (λ o. not (is_destroyed o.state)) (λ o. record o { name = name }) objects id)
step_gives objects (GetKey id) made =
    inl (found_gives (find_in objects id) objects (get objects)
    (λ k object. allowed_gives (not (is_destroyed object.state)) objects
    (stay objects (Got object)) refl))

-- ---- what many calls give

-- each identifier is that of a place from this one on and before the end, and no two are the same
abbrev Apart : ℕ → ℕ → List (List ℕ) → Type 0
Apart first end [] = first ≤ end
Apart first end (id ∷ ids) = (place : ℕ) × (first ≤ place) × (id ≡ identifier place) × Apart (place + 1) end ids

apart_from : (first later end : ℕ) (ids : List (List ℕ)) → first ≤ later → Apart later end ids → Apart first end ids
apart_from first later end [] l h = omega (arith, h)
apart_from first later end (id ∷ ids) l h = (h.0, omega (arith, h.1), h.2, h.3)

then_apart : (objects : List Object) (s : Stepped) (end : ℕ) (later : List (List ℕ))
    → length objects ≤ length s.objects → Gives objects s → Apart (length s.objects) end later
    → Apart (length objects) end (new_identifiers s.answer ++ later)
then_apart objects s end later l (inl e) h = rw e (apart_from (length objects) (length s.objects) end later l h)
then_apart objects s end later l (inr e) h =
    rw e.0 (
      length objects,
      omega arith,
      refl,
      (
        length objects + 1,
        omega arith,
        refl,
        apart_from ((length objects + 1) + 1) (length s.objects) end later (omega (arith, e.1)) h,
      ),
    )

given_apart : (objects : List Object) (calls : List AnsweredCall)
    → Apart (length objects) (length (objects_after objects calls))
    (identifiers_given objects calls)
given_apart objects [] = omega arith
given_apart objects (it ∷ calls) =
    let s = step objects it.call it.made in
    then_apart objects s _ _ (never_fewer objects it.call it.made)
    (step_gives objects it.call it.made) (given_apart s.objects calls)

up_to : (first end : ℕ) (ids : List (List ℕ)) → Apart first end ids → first ≤ end
up_to first end [] h = h
up_to first end (id ∷ ids) h = let later = up_to (h.0 + 1) end ids h.3 in omega (arith, h.1, later)

-- an identifier differs from those of later places
unlike : (id : List ℕ) (place first end : ℕ) (ids : List (List ℕ)) → id ≡ identifier place
    → place < first → end < 2 ^ 64 → Apart first end ids
    → AllByRecursion (λ other. bytes_eq id other ≡ false) ids
unlike id place first end [] e l b h = tt
unlike id place first end (other ∷ ids) e l b h =
    let last : first ≤ end = up_to first end (other ∷ ids) h in
    let within : h.0 + 1 ≤ end = up_to (h.0 + 1) end ids h.3 in
    let differ : id ≡ other → ⊥ = λ same.
    absurd (omega (
      arith,
      h.1,
      decimal_injective (place + 1) (h.0 + 1) (omega arith)
          (omega arith) (sym e ∙ same ∙ h.2),
    )) in
    (other_bytes id other differ, unlike id place (h.0 + 1) end ids e (omega (arith, h.1)) b h.3)

distinct : (first end : ℕ) (ids : List (List ℕ)) → end < 2 ^ 64 → Apart first end ids → IsDistinct bytes_eq ids
unfolding IsDistinct
distinct first end [] b h = tt
distinct first end (id ∷ ids) b h =
    (unlike id h.0 (h.0 + 1) end ids h.2 (omega arith) b h.3, distinct (h.0 + 1) end ids b h.3)

pub given_distinct : (objects : List Object) (calls : List AnsweredCall)
    → length (objects_after objects calls) < 2 ^ 64
    → IsDistinct bytes_eq (identifiers_given objects calls)
given_distinct objects calls b = distinct (length objects) (length (objects_after objects calls))
    (identifiers_given objects calls) b (given_apart objects calls)
