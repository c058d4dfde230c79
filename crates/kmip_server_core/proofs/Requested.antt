-- Which helper's call a payload is.
use Rattle.std.proofs.Common.{◌≡◌, ℕ, List, refl, ◌∙◌, ap, sym, subst, Option, Some, None, Bool, true, false}
use Rattle.std.specs.Prelude.{if◌then◌else◌, ◌↔◌, IsTrue, Result, Ok, Err, IfOk}
use Rattle.std.specs.Option.{option_and_then}
use Rattle.kmip_shape.specs.Val.{Val}
use Rattle.kmip_wire.specs.declared.memory.OutOfMemory.{OutOfMemory}
use Rattle.kmip_shape.specs.Fits.{Fits}
use Rattle.kmip_shape.proofs.Parts.{none_some, some_same}
use Rattle.kmip_types.specs.SameValues.{same_val, same_val-sound, same_val-refl}
use Rattle.kmip_types.specs.declared.auth.CredentialType.{CredentialType}
use Rattle.kmip_request.specs.Fits.{FitsCredential, FitsRequest}
use Rattle.kmip_request.specs.Message.{request_bytes}
use Rattle.kmip_request.specs.Same.{request_payload_same}
use Rattle.kmip_request.specs.Tables.{request_payload}
use Rattle.kmip_request.specs.Values.{request_payload_val}
use Rattle.kmip_request.specs.declared.payload.RequestPayload.{RequestPayload}
use Rattle.kmip_request_read.specs.Matched.{IsMatched}
use Rattle.kmip_request_read.specs.Reading.{Request, request_for, request_read}
use Rattle.kmip_store.specs.declared.call.Call.{Call}
use Rattle.kmip_store.specs.declared.call.Call.TheVariants.{Query, CreateRsaKeyPair, RngRetrieve, Sign, ActivateKey, RevokeKey, DestroyKey, RenameKey, GetKey}
use Rattle.kmip_server_core.specs.Picked.{candidate_call}
use Rattle.kmip_server_core.specs.Requests.{request_of, candidate, if_request, call_of}
use Rattle.kmip_server_core.proofs.Matched.{helper_is_matched}

own : (call : Call) → if_request (request_payload_val (request_of call)) call ≡ Some call
own call =
    let e : same_val (request_payload_val (request_of call)) (request_payload_val (request_of call))
    ≡ true = same_val-refl (request_payload_val (request_of call)) in rw e refl

-- the call of its own request
pub own_call : (call : Call) → call_of (request_for (request_of call)) ≡ Some call
unfolding call_of
own_call Query = own Query
own_call (CreateRsaKeyPair bits private public) = own (CreateRsaKeyPair bits private public)
own_call (RngRetrieve n) = own (RngRetrieve n)
own_call (Sign id bytes) = own (Sign id bytes)
own_call (ActivateKey id) = own (ActivateKey id)
own_call (RevokeKey id) = own (RevokeKey id)
own_call (DestroyKey id) = own (DestroyKey id)
own_call (RenameKey id name) = own (RenameKey id name)
own_call (GetKey id) = own (GetKey id)

pub picked_own : (call : Call) → candidate_call (request_of call) ≡ Some call
picked_own Query = refl
picked_own (CreateRsaKeyPair bits private public) = refl
picked_own (RngRetrieve n) = refl
picked_own (Sign id bytes) = refl
picked_own (ActivateKey id) = refl
picked_own (RevokeKey id) = refl
picked_own (DestroyKey id) = refl
picked_own (RenameKey id name) = refl
picked_own (GetKey id) = refl

if_payload : (payload : Val) (d c : Call) → if_request payload d ≡ Some c → request_payload_val (request_of c) ≡ payload
if_payload payload d c h = go (same_val (request_payload_val (request_of d)) payload) refl h
  where
    go : (b : Bool) → same_val (request_payload_val (request_of d)) payload ≡ b
        → (if b then Some d else None) ≡ Some c → request_payload_val (request_of c) ≡ payload
    go true e k = ap (λ x. request_payload_val (request_of x)) (sym (some_same d c k))
        ∙ same_val-sound (request_payload_val (request_of d)) payload e
    go false e k = none_some _ k

-- the request of the call has this payload
pub call_payload : (r : Request) (c : Call) → call_of r ≡ Some c → request_payload_val (request_of c) ≡ r.payload
unfolding call_of
call_payload r c h = go (candidate r.operation r.payload) h
  where
    go : (o : Option Call) → option_and_then (if_request r.payload) o ≡ Some c
        → request_payload_val (request_of c) ≡ r.payload
    go None k = none_some _ k
    go (Some d) k = if_payload r.payload d c k

-- ---- what the code looks at

-- bytes that are read as the payload and as the request of a call
pub same_read : (b : List ℕ) (p : RequestPayload) (c : Call) → request_read b ≡ Some (request_for p)
    → request_read b ≡ Some (request_for (request_of c)) → Some c ≡ call_of (request_for p)
same_read b p c read own = sym (own_call c)
    ∙ ap call_of (some_same (request_for (request_of c)) (request_for p) (sym own ∙ read))

none_called : (p : RequestPayload) → ((c : Call) → request_of c ≡ p → ⊥) → None ≡ call_of (request_for p)
none_called p never = go (call_of (request_for p)) refl
  where
    go : (o : Option Call) → call_of (request_for p) ≡ o → None ≡ o
    go None e = refl
    go (Some c) e = absurd (never c (request_payload_same (request_of c) p (call_payload (request_for p) c e)))

pub no_candidate : (p : RequestPayload) → candidate_call p ≡ None → None ≡ call_of (request_for p)
no_candidate p none = none_called p (λ c h. none_some ⊥ (sym none ∙ (ap candidate_call (sym h) ∙ picked_own c)))

pub other_request : (p : RequestPayload) (c : Call) → candidate_call p ≡ Some c
    → (request_of c ≡ p → ⊥) → None ≡ call_of (request_for p)
other_request p c some other = none_called p
    (λ d h. other (ap request_of (some_same c d (sym some ∙
    (ap candidate_call (sym h) ∙ picked_own d))) ∙ h))

-- bytes of the payload that are not those of the one call whose request it may be
pub other_bytes : (b : List ℕ) (p : RequestPayload) (credential : Option CredentialType) (c : Call)
    → candidate_call p ≡ Some c → request_bytes p credential ≡ Some b
    → (request_bytes (request_of c) credential ≡ Some b → ⊥) → None ≡ call_of (request_for p)
other_bytes b p credential c some written other =
    other_request p c some (λ h. other (ap (λ x. request_bytes x credential) h ∙ written))

-- bytes of the payload are the request of a call where its request is written as them
pub is_of : (r : Result Bool OutOfMemory) (b : List ℕ) (p : RequestPayload)
    (credential : Option CredentialType) (c : Call) → request_read b ≡ Some (request_for p)
    → request_bytes p credential ≡ Some b →
    IfOk r (λ same. same ≡ true → request_read b ≡ Some (request_for (request_of c)))
    → IfOk r (λ same. same ≡ false → request_bytes (request_of c) credential ≡ Some b → ⊥) →
    IfOk r (λ is. IsTrue is ↔ (request_read b ≡ Some (request_for (request_of c))))
is_of (Ok true) b p credential c read written same other = (λ t. same refl, λ h. refl)
is_of (Ok false) b p credential c read written same other = (
  λ t. absurd (cc),
  λ h.
      let vals : request_payload_val (request_of c) ≡ request_payload_val p =
      ap (λ (x : Request). x.payload)
      (some_same (request_for (request_of c)) (request_for p) (sym h ∙ read)) in
      absurd (other refl (ap (λ x. request_bytes x credential) (request_payload_same (request_of c) p vals) ∙ written)),
)
is_of (Err e) b p credential c read written same other = tt

-- a call's request was written as these bytes
pub made_read : ((p : RequestPayload) (c : Option CredentialType) (b : List ℕ) → FitsRequest p c
    → IsMatched p → request_bytes p c ≡ Some b → request_read b ≡ Some (request_for p)) →
    (call : Call) (p : RequestPayload) (credential : Option CredentialType) (b : List ℕ)
    → p ≡ request_of call → Fits request_payload (request_payload_val p)
    → FitsCredential credential → request_bytes p credential ≡ Some b →
    request_read b ≡ Some (request_for (request_of call))
made_read reads call p credential b is fits texts written =
    reads (request_of call) credential b
    (subst (λ x. Fits request_payload (request_payload_val x)) is fits, texts)
    (helper_is_matched call) (subst (λ x. request_bytes x credential ≡ Some b) is written)
