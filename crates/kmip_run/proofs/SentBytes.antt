-- What a session sends.
use Rattle.std.proofs.Common.{◌≡◌, ℕ, Bool, true, false, cond, List, [], ◌∷◌, ◌++◌, length, take, drop, map, refl, ◌∙◌, ap, subst, Option, Some, None, Result, Ok, Err, IfOk, inl, inr}
use Rattle.kmip_wire.specs.Tree.{Tree}
use Rattle.kmip_wire.specs.Parses.{Parses, AreTexts, joined_texts}
use Rattle.kmip_types.specs.declared.auth.CredentialType.{CredentialType}
use Rattle.kmip_enums.specs.declared.operation.Operation.{Operation}
use Rattle.kmip_shape.specs.Shape.{NoCase}
use Rattle.kmip_shape.specs.Fits.{vals_fit}
use Rattle.kmip_shape.specs.Writes.{vals}
use Rattle.kmip_request.specs.Fits.{FitsCredential, FitsRequest}
use Rattle.kmip_request.specs.Tables.{request_payload}
use Rattle.kmip_request.specs.Values.{request_payload_val}
use Rattle.kmip_request.specs.Message.{request_bytes, operation_of}
use Rattle.kmip_request.specs.declared.payload.RequestPayload.{RequestPayload}
use Rattle.kmip_client.specs.Client.{loses_connection}
use Rattle.kmip_client.specs.Outcome.{outcome, outcome_of}
use Rattle.kmip_client.specs.Session.{Turn, turn_of, session, all_sent}
use Rattle.kmip_request_read.specs.declared.reading.RequestReadError.{RequestReadError}
use Rattle.kmip_request_read.specs.declared.reading.RequestReadError.TheVariants.{Malformed, NotCanonical, OutOfMemory}
use Rattle.kmip_run.specs.Sent.{with_message, messages_of, AreHeld, IsSent, GivesBack}

-- ---- the texts

-- what one turn sends, before what the later ones do
one_sent : (request : Option (List ℕ)) (operation : Operation) (limit : Option ℕ) (rest : List ℕ)
    (later : List (List ℕ)) →
    (outcome_of request operation limit rest).sent ++ joined_texts later ≡ joined_texts (with_message request later)
one_sent None operation limit rest later = refl
one_sent (Some message) operation limit rest later = refl

abbrev IsJoined : List Turn → Type 0
IsJoined turns = all_sent turns ≡ joined_texts (messages_of turns)

turn_joined : (payload : RequestPayload) (credential : Option CredentialType) (limit : Option ℕ)
    (rest : List ℕ) (later : List Turn) → IsJoined later
    → IsJoined (turn_of payload credential limit rest ∷ later)
turn_joined payload credential limit rest later joined =
    ap (λ (l : List ℕ). (outcome payload credential limit rest).sent ++ l) joined
    ∙ one_sent (request_bytes payload credential) (operation_of payload) limit rest
    (messages_of later)

either : (P : List Turn → Type 0) (lost : Bool) (turn : Turn) (later : List Turn) → P (turn ∷ [])
    → P (turn ∷ later) → P (cond lost (turn ∷ []) (turn ∷ later))
either P true turn later one more = one
either P false turn later one more = more

pub joined : (payloads : List RequestPayload) (credential : Option CredentialType)
    (limit : Option ℕ) (rest : List ℕ) → IsJoined (session payloads credential limit rest)
unfolding session
joined [] credential limit rest = refl
joined (payload ∷ payloads) credential limit rest =
    let turn : Turn = turn_of payload credential limit rest in
    let later : List Turn = session payloads credential limit
    (drop (outcome payload credential limit rest).taken rest) in
    either IsJoined (loses_connection turn.outcome.answer) turn later
    (turn_joined payload credential limit rest [] refl)
    (turn_joined payload credential limit rest later
    (joined payloads credential limit
    (drop (outcome payload credential limit rest).taken rest)))

-- ---- they parse

abbrev RequestsParse : Type 0
RequestsParse = (p : RequestPayload) (c : Option CredentialType) (b : List ℕ) → FitsRequest p c
    → request_bytes p c ≡ Some b → (t : Tree) × Parses t 1 b

abbrev DoParse : List Turn → Type 0
DoParse turns = AreTexts 1 (messages_of turns)

one_parses : (request : Option (List ℕ)) (later : List (List ℕ))
    → ((b : List ℕ) → request ≡ Some b → (t : Tree) × Parses t 1 b) → AreTexts 1 later
    → AreTexts 1 (with_message request later)
one_parses None later parses rest = rest
one_parses (Some message) later parses rest = (parses message refl, rest)

pub parse : RequestsParse → (payloads : List RequestPayload) (credential : Option CredentialType)
    (limit : Option ℕ) (rest : List ℕ) → AreHeld payloads credential
    → DoParse (session payloads credential limit rest)
unfolding session
parse parses [] credential limit rest held = tt
parse parses (payload ∷ payloads) credential limit rest held =
    let turn : Turn = turn_of payload credential limit rest in
    let later : List Turn = session payloads credential limit
    (drop (outcome payload credential limit rest).taken rest) in
    let own = parses payload credential in
    either DoParse (loses_connection turn.outcome.answer) turn later
    (one_parses (request_bytes payload credential) [] (λ b is. own b held.0 is) tt)
    (one_parses (request_bytes payload credential) (messages_of later) (λ b is. own b held.0 is)
    (parse parses payloads credential limit
    (drop (outcome payload credential limit rest).taken rest) held.1))

-- ---- in one way

abbrev OneSplit : Type 0
OneSplit = (level : ℕ) (bs cs : List (List ℕ)) → AreTexts level bs → AreTexts level cs
    → joined_texts bs ≡ joined_texts cs → bs ≡ cs

pub only : RequestsParse → OneSplit
    → (payloads : List RequestPayload) (credential : Option CredentialType) (limit : Option ℕ)
    (rest : List ℕ) (texts : List (List ℕ)) → AreHeld payloads credential →
    AreTexts 1 texts → joined_texts texts ≡ all_sent (session payloads credential limit rest)
    → texts ≡ messages_of (session payloads credential limit rest)
only parses one payloads credential limit rest texts held texts_parse same =
    one 1 texts (messages_of (session payloads credential limit rest)) texts_parse
    (parse parses payloads credential limit rest held)
    (same ∙ joined payloads credential limit rest)

-- ---- whose requests they are

abbrev AreFirst : List RequestPayload → Option CredentialType → List Turn → Type 0
AreFirst payloads credential turns =
    map (λ turn. turn.request) turns ≡ map (λ payload. request_bytes payload credential)
    (take (length turns) payloads)

first_next : (payload : RequestPayload) (payloads : List RequestPayload)
    (credential : Option CredentialType) (limit : Option ℕ) (rest : List ℕ) (later : List Turn) →
    AreFirst payloads credential later
    → AreFirst (payload ∷ payloads) credential (turn_of payload credential limit rest ∷ later)
first_next payload payloads credential limit rest later first =
    ap (λ (l : List (Option (List ℕ))). request_bytes payload credential ∷ l) first

pub requests : (payloads : List RequestPayload) (credential : Option CredentialType)
    (limit : Option ℕ) (rest : List ℕ)
    → AreFirst payloads credential (session payloads credential limit rest)
unfolding session
requests [] credential limit rest = refl
requests (payload ∷ payloads) credential limit rest =
    let turn : Turn = turn_of payload credential limit rest in
    let later : List Turn = session payloads credential limit
    (drop (outcome payload credential limit rest).taken rest) in
    either (AreFirst (payload ∷ payloads) credential) (loses_connection turn.outcome.answer) turn later
    (first_next payload payloads credential limit rest [] refl)
    (first_next payload payloads credential limit rest later
    (requests payloads credential limit
    (drop (outcome payload credential limit rest).taken rest)))

-- ---- what is read of them

abbrev IsFound : RequestPayload → Option CredentialType → List ℕ → Type 0
IsFound payload credential text = FitsRequest payload credential × (request_bytes payload credential ≡ Some text)

abbrev Finds : RequestPayload → Option CredentialType → List ℕ → List RequestPayload → List Turn → Type 0
Finds payload credential text payloads turns = IsSent payload text turns payloads → IsFound payload credential text

found_first : (p payload : RequestPayload) (payloads : List RequestPayload)
    (credential : Option CredentialType) (limit : Option ℕ) (rest text : List ℕ) (later : List Turn)
    → FitsRequest p credential →
    Finds payload credential text payloads later
    → Finds payload credential text (p ∷ payloads) (turn_of p credential limit rest ∷ later)
found_first p payload payloads credential limit rest text later held next (inl here) =
    subst (λ (q : RequestPayload). IsFound q credential text) here.0 (held, here.1)
found_first p payload payloads credential limit rest text later held next (inr there) = next there

none_found : (payload : RequestPayload) (credential : Option CredentialType) (text : List ℕ)
    (payloads : List RequestPayload) → Finds payload credential text payloads []
none_found payload credential text payloads sent = absurd sent

pub found : (payloads : List RequestPayload) (credential : Option CredentialType) (limit : Option ℕ)
    (rest : List ℕ) (payload : RequestPayload) (text : List ℕ) → AreHeld payloads credential →
    Finds payload credential text payloads (session payloads credential limit rest)
unfolding session
found [] credential limit rest payload text held = none_found payload credential text []
found (p ∷ payloads) credential limit rest payload text held =
    let turn : Turn = turn_of p credential limit rest in
    let later : List Turn = session payloads credential limit (drop (outcome p credential limit rest).taken rest) in
    either (Finds payload credential text (p ∷ payloads)) (loses_connection turn.outcome.answer) turn later
    (found_first p payload payloads credential limit rest text [] held.0 (none_found payload credential text payloads))
    (found_first p payload payloads credential limit rest text later held.0
    (found payloads credential limit (drop (outcome p credential limit rest).taken rest)
    payload text held.1))

pub gives_back : (payload : RequestPayload) (credential : Option CredentialType)
    (result : Result (RequestPayload × Option CredentialType) RequestReadError) →
    IfOk result (λ read. (read.0 ≡ payload) × (read.1 ≡ credential)) → (result ≡ Err Malformed → ⊥)
    → (result ≡ Err NotCanonical → ⊥) → GivesBack payload credential result
gives_back payload credential (Ok read) back malformed other = back
gives_back payload credential (Err Malformed) back malformed other = absurd (malformed refl)
gives_back payload credential (Err NotCanonical) back malformed other = absurd (other refl)
gives_back payload credential (Err OutOfMemory) back malformed other = refl

-- ---- what Rust holds

pub held_all : (payloads : List RequestPayload) (credential : Option CredentialType)
    → vals_fit (vals request_payload_val payloads) NoCase request_payload
    → FitsCredential credential → AreHeld payloads credential
held_all [] credential fit texts = tt
held_all (payload ∷ payloads) credential fit texts = ((fit.0, texts), held_all payloads credential fit.1 texts)
