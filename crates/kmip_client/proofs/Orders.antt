-- A session over messages that stand whole.
use Rattle.std.proofs.Common.{◌≡◌, ℕ, false, List, [], ◌∷◌, length, drop, map, refl, ◌∙◌, sym, ap, subst, Option, Some, None, true, cond, Bool}
use Rattle.std.specs.Prelude.{IsSome, ◌↔◌}
use Rattle.kmip_wire.specs.Bytes.{HasRanges}
use Rattle.kmip_wire.specs.Tree.{Tree}
use Rattle.kmip_wire.specs.Parses.{Parses}
use Rattle.kmip_diag.specs.Skeleton.{Skeleton, skeleton}
use Rattle.kmip_diag.specs.Diagnostic.{diagnostic}
use Rattle.kmip_types.specs.declared.auth.CredentialType.{CredentialType}
use Rattle.kmip_enums.specs.declared.operation.Operation.{Operation}
use Rattle.kmip_request.specs.Message.{request_bytes, operation_of}
use Rattle.kmip_request.specs.declared.payload.RequestPayload.{RequestPayload}
use Rattle.kmip_client.specs.Message.{Message, message_at, taken_for, Ended, Refused, Whole}
use Rattle.kmip_client.specs.Outcome.{Answer, Outcome, outcome, outcome_of, answer_of, read_answer}
use Rattle.kmip_client.specs.Client.{loses_connection}
use Rattle.kmip_client.specs.Diagnostics.{diagnostic_for}
use Rattle.kmip_client.specs.Session.{Turn, turn_of, then_on, session, turn_report, response_text_of}
use Rattle.kmip_client.specs.Order.{AreServed, answers_to}
use Rattle.kmip_client.specs.Skeletons.{taken_by, AllParse, skeletons_of, texts_of}
use Rattle.kmip_client.proofs.MessageAnswers.{OfMessages, message_says}

-- ---- messages in order

keeps_on : OfMessages (λ answer. loses_connection answer ≡ false)
keeps_on = record {
  ok = λ p. refl;
  malformed = λ t. refl;
  internal = λ t. refl;
  server =
      λ t. refl;
  not_found = λ t. refl;
}

-- a valid request over a whole message
on_message : (request : Option (List ℕ)) (operation : Operation) (limit : Option ℕ)
    (m rest : List ℕ) → IsSome request → message_at rest limit ≡ Whole m →
    ((outcome_of request operation limit rest).answer ≡ read_answer operation m)
    × ((outcome_of request operation limit rest).taken ≡ length m)
on_message None operation limit m rest valid front = absurd (cc)
on_message (Some bytes) operation limit m rest valid front = (ap (answer_of operation) front, ap (taken_for rest) front)

-- the session goes on after it
goes_on : (turn : Turn) (later : List Turn) → loses_connection turn.outcome.answer ≡ false
    → then_on turn later ≡ turn ∷ later
goes_on turn later kept = rw kept refl

pub in_order : (payloads : List RequestPayload) (credential : Option CredentialType)
    (limit : Option ℕ) (messages : List (List ℕ)) (rest : List ℕ) →
    AreServed payloads credential limit messages rest
    → map (λ turn. turn.outcome.answer) (session payloads credential limit rest)
    ≡ answers_to payloads messages
unfolding session
in_order [] credential limit [] rest served = refl
in_order [] credential limit (m ∷ messages) rest served = absurd served
in_order (payload ∷ payloads) credential limit [] rest served = absurd served
in_order (payload ∷ payloads) credential limit (m ∷ messages) rest served =
    let o : Outcome = outcome payload credential limit rest in
    let here = on_message (request_bytes payload credential) (operation_of payload) limit m rest served.0 served.1 in
    let kept : loses_connection o.answer ≡ false =
    ap loses_connection here.0 ∙ message_says keeps_on (operation_of payload) m in
    let later : List Turn = session payloads credential limit (drop o.taken rest) in
    let next : map (λ turn. turn.outcome.answer) later ≡ answers_to payloads messages =
    in_order payloads credential limit messages (drop o.taken rest)
    (subst (λ (n : ℕ). AreServed payloads credential limit messages (drop n rest))
    (sym here.1) served.2) in
    ap (λ (turns : List Turn). map (λ turn. turn.outcome.answer) turns)
    (goes_on (turn_of payload credential limit rest) later kept)
    ∙ (ap (λ (a : Answer). a ∷ map (λ turn. turn.outcome.answer) later) here.0
    ∙ ap (λ (l : List Answer). read_answer (operation_of payload) m ∷ l) next)

-- ---- what diagnostics tell

-- the response of a turn is told
abbrev IsReported : Turn → Type 0
IsReported turn = (taken : List ℕ) → response_text_of true taken turn.outcome.answer ≡ diagnostic_for true taken

tells : (taken : List ℕ) → OfMessages (λ answer. response_text_of true taken answer ≡ diagnostic_for true taken)
tells taken = record {
  ok = λ p. refl;
  malformed = λ t. refl;
  internal = λ t. refl;
  server =
      λ t. refl;
  not_found = λ t. refl;
}

answer_reported : (operation : Operation) (here : Message) (taken : List ℕ)
    → response_text_of true taken (answer_of operation here) ≡ diagnostic_for true taken
answer_reported operation Ended taken = refl
answer_reported operation (Refused error) taken = refl
answer_reported operation (Whole m) taken = message_says (tells taken) operation m

turn_is_reported : (request : Option (List ℕ)) (bytes : List ℕ) (operation : Operation)
    (limit : Option ℕ) (rest taken : List ℕ) → request ≡ Some bytes →
    response_text_of true taken (outcome_of request operation limit rest).answer ≡ diagnostic_for true taken
turn_is_reported None bytes operation limit rest taken is = absurd (cc)
turn_is_reported (Some own) bytes operation limit rest taken is =
    answer_reported operation (message_at rest limit) taken

abbrev Texts : Type 0
Texts = Option (List ℕ) × Option (List ℕ)

-- the diagnostics of what parses
abbrev diagnostics : (turns : List Turn) → AllParse turns → List Texts
diagnostics [] all = []
diagnostics (turn ∷ turns) all = (
  Some (diagnostic (Some 0x4200) all.0.message),
  Some
      (diagnostic (Some 0x4200) (taken_by turn)),
) ∷ diagnostics turns all.1

abbrev AreReported : List Turn → Type 0
AreReported turns = (all : AllParse turns) → texts_of turns ≡ diagnostics turns all

reported_next : (turn : Turn) (turns : List Turn) → IsReported turn → AreReported turns → AreReported (turn ∷ turns)
reported_next turn turns told rest all =
    let own : (turn_report true turn).request_text ≡ Some (diagnostic (Some 0x4200) all.0.message) =
    rw all.0.is_request refl in
    let taken : (turn_report true turn).response_text
    ≡ Some (diagnostic (Some 0x4200) (taken_by turn)) = told (taken_by turn) in
    ap (λ (t : Option (List ℕ)). (t, (turn_report true turn).response_text) ∷ texts_of turns) own
    ∙ (ap (λ (t : Option (List ℕ)). (Some (diagnostic (Some 0x4200) all.0.message), t) ∷ texts_of turns) taken
    ∙ ap (λ (l : List Texts). (
      Some (diagnostic (Some 0x4200) all.0.message),
      Some
          (diagnostic (Some 0x4200) (taken_by turn)),
    ) ∷ l) (rest all.1))

-- where a turn's request is known to be some bytes, what it took is told
reported_first : (payload : RequestPayload) (credential : Option CredentialType) (limit : Option ℕ)
    (rest : List ℕ) (turns : List Turn) → AreReported turns
    → AreReported (turn_of payload credential limit rest ∷ turns)
reported_first payload credential limit rest turns later all =
    reported_next (turn_of payload credential limit rest) turns
    (λ taken. turn_is_reported (request_bytes payload credential) all.0.message
    (operation_of payload) limit rest taken all.0.is_request) later all

either_reported : (lost : Bool) (turn : Turn) (later : List Turn) → AreReported (turn ∷ [])
    → AreReported (turn ∷ later) → AreReported (cond lost (turn ∷ []) (turn ∷ later))
either_reported true turn later one more = one
either_reported false turn later one more = more

are_reported : (payloads : List RequestPayload) (credential : Option CredentialType)
    (limit : Option ℕ) (rest : List ℕ) → AreReported (session payloads credential limit rest)
unfolding session
are_reported [] credential limit rest = λ all. refl
are_reported (payload ∷ payloads) credential limit rest =
    let turn : Turn = turn_of payload credential limit rest in
    let later : List Turn = session payloads credential limit
    (drop (outcome payload credential limit rest).taken rest) in
    either_reported (loses_connection turn.outcome.answer) turn later
    (reported_first payload credential limit rest [] (λ all. refl))
    (reported_first payload credential limit rest later
    (are_reported payloads credential limit
    (drop (outcome payload credential limit rest).taken rest)))

-- ---- diagnostics and skeletons

abbrev Tell : Type 0
Tell = (prefix : Option ℕ) (t u : Tree) (b c : List ℕ) → HasRanges t → HasRanges u → Parses t 1 b
    → Parses u 1 c → (diagnostic prefix b ≡ diagnostic prefix c) ↔ (skeleton t ≡ skeleton u)

cons_same : {A : Type 0} {x y : A} {xs ys : List A} → x ∷ xs ≡ y ∷ ys → (x ≡ y) × (xs ≡ ys)
cons_same h = (cc, cc)

some_is : {A : Type 0} {x y : A} → Some x ≡ Some y → x ≡ y
some_is h = cc

pair : {A B : Type 0} {a c : A} {b d : B} → a ≡ c → b ≡ d → ◌≡◌ {A = A × B} (a, b) (c, d)
pair p q = λ i. (p i, q i)

cons : {A : Type 0} {x y : A} {xs ys : List A} → x ≡ y → xs ≡ ys → x ∷ xs ≡ y ∷ ys
cons p q = λ i. p i ∷ q i

lists_tell : Tell → (ts us : List Turn) (all : AllParse ts) (each : AllParse us)
    → (diagnostics ts all ≡ diagnostics us each) ↔ (skeletons_of ts all ≡ skeletons_of us each)
lists_tell tell [] [] all each = (λ h. refl, λ h. refl)
lists_tell tell [] (u ∷ us) all each = (λ h. absurd (cc), λ h. absurd (cc))
lists_tell tell (t ∷ ts) [] all each = (λ h. absurd (cc), λ h. absurd (cc))
lists_tell tell (t ∷ ts) (u ∷ us) all each =
    let requests = tell (Some 0x4200)
    all.0.request each.0.request all.0.message each.0.message all.0.request_parses.0 each.0.request_parses.0 all.0.request_parses.1 each.0.request_parses.1 in
    let responses = tell (Some 0x4200) all.0.response each.0.response (taken_by t)
    (taken_by u)
    all.0.response_parses.0 each.0.response_parses.0 all.0.response_parses.1 each.0.response_parses.1 in
    let later = lists_tell tell ts us all.1 each.1 in (
      λ h.
          let s = cons_same h in
          cons (pair (requests.0 (some_is (ap (λ (p : Texts). p.0) s.0)))
          (responses.0 (some_is (ap (λ (p : Texts). p.1) s.0)))) (later.0 s.1),
      λ h.
          let s = cons_same h in
          cons (pair (ap Some (requests.1 (ap (λ (p : Skeleton × Skeleton). p.0) s.0)))
          (ap Some (responses.1 (ap (λ (p : Skeleton × Skeleton). p.1) s.0)))) (later.1 s.1),
    )

pub sessions_tell : Tell → (payloads others : List RequestPayload)
    (credential other : Option CredentialType) (limit most : Option ℕ) (rest bytes : List ℕ) →
    (all : AllParse (session payloads credential limit rest)) → (each : AllParse (session others other most bytes)) →
    (texts_of (session payloads credential limit rest) ≡ texts_of (session others other most bytes))
    ↔ (skeletons_of (session payloads credential limit rest) all
    ≡ skeletons_of (session others other most bytes) each)
sessions_tell tell payloads others credential other limit most rest bytes all each =
    let own = are_reported payloads credential limit rest all in
    let their = are_reported others other most bytes each in
    let both = lists_tell tell (session payloads credential limit rest) (session others other most bytes) all each in
    (λ h. both.0 (sym own ∙ (h ∙ their)), λ h. own ∙ (both.1 h ∙ sym their))
