-- A call over a link that is open and stays so came as expected.
use Rattle.std.proofs.Common.{◌≡◌, ℕ, ℤ, pos, negsuc, ◌-◌, List, [], ◌∷◌, ◌++◌, length, take, drop, refl, ◌∙◌, ap, sym, subst, arith, Option, Some, None, Bool, true, false, Ok, Err, IsTrue}
use Rattle.std.proofs.Math.Seq.{drop-append_seam}
use Rattle.kmip_server.specs.Split.{IsMessage, messages_in}
use Rattle.kmip_request.specs.Message.{request_bytes}
use Rattle.kmip_types.specs.declared.auth.CredentialType.{CredentialType}
use Rattle.kmip_request.specs.declared.payload.RequestPayload.{RequestPayload}
use Rattle.kmip_link.specs.State.{LinkState, FaultCountRose}
use Rattle.kmip_client.specs.Calls.{IsCall}
use Rattle.kmip_client.specs.Client.{ClientState, loses_connection, lacks_memory}
use Rattle.kmip_client.specs.Diagnostics.{IsRequestText, IsResponseText, diagnostic_of}
use Rattle.kmip_client.specs.Outcome.{Answer, outcome, left_for, Moves, Exchanged, completed, write_failed, read_failed, sending_cut, reading_cut}
use Rattle.kmip_client.specs.Session.{Turn, response_text_of}
use Rattle.kmip_client.specs.declared.error.Error.TheVariants.{ConfigurationError, SerializeError, RequestWriteError, ResponseReadError, DeserializeError, ServerError, InternalError, ItemNotFound, Unknown, OutOfMemory}
use Rattle.kmip_store.specs.declared.call.Call.{Call}
use Rattle.kmip_store.specs.declared.object.Object.{Object}
use Rattle.kmip_store.specs.Makers.{MakerState}
use Rattle.kmip_server_core.specs.Requests.{request_of}
use Rattle.kmip_server.specs.Machine.{Run, fresh, run_of}
use Rattle.kmip_server.specs.Serving.{AreResponsesHeld}
use Rattle.kmip_server.specs.Joined.{CallSettings, JoinedReport, IsReadBack, helper_answer, turn_with, joined_report}
use Rattle.kmip_server.specs.Link.{ServerLinkState, time_number, bit_of, server_link_state, HasServed, LinkFacts, IsOpen}
use Rattle.kmip_server.specs.OneCall.{Agrees, CallAlwaysMatches, CallEffect}
use Rattle.kmip_server.specs.Calls.{call_settings}
use Rattle.kmip_server.proofs.Frames.{AreMessages}
use Rattle.kmip_server.proofs.Steps.{IsReady, valid_call, invalid_call}

-- ---- what a link's mark tells

cons_same : (a b c d : ℕ) → a ∷ b ∷ [] ≡ c ∷ d ∷ [] → (a ≡ c) × (b ≡ d)
cons_same a b c d h = (cc, cc)

times : (x y : ℤ) → time_number x ≡ time_number y → x ≡ y
times (pos n) (pos m) h = let e : n ≡ m = omega arith in ap pos e
times (pos n) (negsuc m) h = absurd (omega arith)
times (negsuc n) (pos m) h = absurd (omega arith)
times (negsuc n) (negsuc m) h = let e : n ≡ m = omega arith in ap negsuc e

bits : (x y : Bool) → bit_of x ≡ bit_of y → x ≡ y
bits true true h = refl
bits true false h = absurd (omega arith)
bits false true h = absurd (omega arith)
bits false false h = refl

-- ---- the texts of an answer

pub request_is : (buffered : Bool) (request : Option (List ℕ)) (answer : Answer)
    (a : Option (List ℕ)) → IsRequestText buffered request answer a → lacks_memory answer ≡ false
    → a ≡ diagnostic_of buffered request
request_is buffered request (Ok payload) a p room = p
request_is buffered request (Err (ConfigurationError t)) a p room = p
request_is buffered request (Err (SerializeError t)) a p room = p
request_is buffered request (Err (RequestWriteError t)) a p room = p
request_is buffered request (Err (ResponseReadError t)) a p room = p
request_is buffered request (Err (DeserializeError t)) a p room = p
request_is buffered request (Err (ServerError t)) a p room = p
request_is buffered request (Err (InternalError t)) a p room = p
request_is buffered request (Err (ItemNotFound t)) a p room = p
request_is buffered request (Err (Unknown t)) a p room = p
request_is buffered request (Err OutOfMemory) a p room = absurd (let e : true ≡ false = room in cc)

response_is : (buffered : Bool) (taken : List ℕ) (answer : Answer) (b : Option (List ℕ))
    → IsResponseText buffered taken answer b → lacks_memory answer ≡ false
    → b ≡ response_text_of buffered taken answer
response_is buffered taken (Ok payload) b p room = p
response_is buffered taken (Err (ConfigurationError t)) b p room = p
response_is buffered taken (Err (SerializeError t)) b p room = p
response_is buffered taken (Err (RequestWriteError t)) b p room = p
response_is buffered taken (Err (ResponseReadError t)) b p room = p
response_is buffered taken (Err (DeserializeError t)) b p room = p
response_is buffered taken (Err (ServerError t)) b p room = p
response_is buffered taken (Err (InternalError t)) b p room = p
response_is buffered taken (Err (ItemNotFound t)) b p room = p
response_is buffered taken (Err (Unknown t)) b p room = p
response_is buffered taken (Err OutOfMemory) b p room = absurd (let e : true ≡ false = room in cc)

-- ---- a call

-- a call as the code tells it: what the link's `sent` grew by, and the client's texts
abbrev pub code_told : LinkState → LinkState → Answer → Option (List ℕ) → Option (List ℕ) → JoinedReport
code_told before after answer request_text response_text =
    record {
      sent = drop (length before.sent) after.sent;
      answer = answer;
      request_text =
          request_text;
      response_text = response_text;
    }

same_told : (s s' : List ℕ) (a a' : Answer) (q q' r r' : Option (List ℕ)) → s ≡ s' → a ≡ a' → q ≡ q' → r ≡ r' →
    let x : JoinedReport = record { sent = s; answer = a; request_text = q; response_text = r } in
    let y : JoinedReport = record
    { sent = s'; answer = a'; request_text = q'; response_text = r' } in x ≡ y
same_told s s' a a' q q' r r' e f g h = rw (e, f, g, h) refl

abbrev turn_for : CallSettings → Call → Option (List ℕ) → LinkState → LinkState → Turn
turn_for settings call request before after = turn_with settings call request (left_for before after)

told_as : (settings : CallSettings) (call : Call) (before after : LinkState)
    (request : Option (List ℕ)) (answer : Answer) (a b : Option (List ℕ)) →
    let turn = turn_for settings call request before after in
    answer ≡ turn.outcome.answer → Moves before after turn.outcome.sent turn.outcome.taken →
    IsRequestText settings.buffered request answer a
    → IsResponseText settings.buffered
    (take (after.pos - before.pos) (left_for before after)) answer b
    → lacks_memory answer ≡ false →
    code_told before after (helper_answer call answer) a b ≡ joined_report settings call turn
told_as settings call before after request answer a b is moves p q room =
    let turn : Turn = turn_for settings call request before after in
    let passed : after.pos - before.pos ≡ turn.outcome.taken = omega (arith, moves.pos) in
    same_told _ _ _ _ _ _ _ _
    (ap (λ l. drop (length before.sent) l) moves.sent_is ∙ drop-append_seam before.sent turn.outcome.sent)
    (ap (helper_answer call) is)
    (request_is settings.buffered request answer a p room)
    (response_is settings.buffered (take (after.pos - before.pos) (left_for before after)) answer b q room
    ∙ ap (λ n. response_text_of settings.buffered (take n (left_for before after)) answer) passed
    ∙ ap (λ x. response_text_of settings.buffered (take turn.outcome.taken (left_for before after)) x) is)

-- what is promised of requests
abbrev pub AreRequests : Type 0
AreRequests = (p : RequestPayload) (c : Option CredentialType) (b : List ℕ) → request_bytes p c ≡ Some b → IsMessage b

came_with : AreMessages → AreRequests
    → (settings : CallSettings) (call : Call) (before after : LinkState) (request : Option (List ℕ))
    (answer : Answer) (a b : Option (List ℕ)) →
    request_bytes (request_of call) settings.credential ≡ request
    → IsReadBack call settings.credential → IsReady settings.time before
    → (after.sent ≡ before.sent → IsReady settings.time (record after { sent = before.sent })) →
    let turn = turn_for settings call request before after in
    answer ≡ turn.outcome.answer → Moves before after turn.outcome.sent turn.outcome.taken →
    code_told before after (helper_answer call answer) a b ≡ joined_report settings call turn →
    CallAlwaysMatches settings call before after
    (code_told before after (helper_answer call answer) a b) (loses_connection answer)
came_with responses requests settings call before after (Some bytes) answer a b valid reads ready ready' is moves told =
    let P : JoinedReport → Type 0 = λ x. CallAlwaysMatches settings call before after x (loses_connection answer) in
    let Q : Bool → Type 0 = λ s. CallAlwaysMatches settings call before after
    (joined_report settings call (turn_for settings call (Some bytes) before after)) s in
    subst P (sym told) (subst Q (sym (ap loses_connection is))
    (valid_call responses settings call before after bytes valid
    (requests (request_of call) settings.credential bytes valid) reads ready moves))
came_with responses requests settings call before after None answer a b valid reads ready ready' is moves told =
    let P : JoinedReport → Type 0 = λ x. CallAlwaysMatches settings call before after x (loses_connection answer) in
    let Q : Bool → Type 0 = λ s. CallAlwaysMatches settings call before after
    (joined_report settings call (turn_for settings call None before after)) s in
    let none : before.sent ++ [] ≡ before.sent = append_none before.sent in
    subst P (sym told) (subst Q (sym (ap loses_connection is))
    (invalid_call responses settings call before after valid ready
    (ready' (moves.sent_is ∙ none)) moves))
  where
    append_none : (xs : List ℕ) → xs ++ [] ≡ xs
    append_none [] = refl
    append_none (x ∷ xs) = ap (λ l. x ∷ l) (append_none xs)

no_rise : (m n : ℕ) → m ≡ 0 → n ≡ 0 → FaultCountRose m n → ⊥
no_rise m n e f r = omega arith

pub came_by : AreMessages → AreRequests
    → (settings : CallSettings) (call : Call) (before after : LinkState) (answer : Answer)
    (a b : Option (List ℕ)) →
    IsReadBack call settings.credential → IsReady settings.time before
    → (after.sent ≡ before.sent → IsReady settings.time (record after { sent = before.sent }))
    → before.faults ≡ 0 → after.faults ≡ 0 → lacks_memory answer ≡ false →
    Exchanged (outcome (request_of call) settings.credential settings.limit (left_for before after))
    before after answer →
    IsRequestText settings.buffered (request_bytes (request_of call) settings.credential) answer a
    → IsResponseText settings.buffered
    (take (after.pos - before.pos) (left_for before after)) answer b →
    CallAlwaysMatches settings call before after
    (code_told before after (helper_answer call answer) a b) (loses_connection answer)
came_by responses requests settings call before after answer a b reads ready ready' sound sound' room (completed is moves) p q =
    came_with responses requests settings call before after
    (request_bytes (request_of call) settings.credential)
    answer a b refl reads ready ready' is moves
    (told_as settings call before after
    (request_bytes (request_of call) settings.credential) answer a b is moves p q room)
came_by responses requests settings call before after answer a b reads ready ready' sound sound' room (write_failed is rose n h moves) p q = absurd (no_rise before.faults after.faults sound sound' rose)
came_by responses requests settings call before after answer a b reads ready ready' sound sound' room (read_failed is rose n h moves) p q = absurd (no_rise before.faults after.faults sound sound' rose)
came_by responses requests settings call before after answer a b reads ready ready' sound sound' room (sending_cut is n h moves) p q = absurd (let e : lacks_memory answer ≡ true = ap lacks_memory is in cc)
came_by responses requests settings call before after answer a b reads ready ready' sound sound' room (reading_cut is n h moves) p q = absurd (let e : lacks_memory answer ≡ true = ap lacks_memory is in cc)

-- ---- over a link round a server

append_nothing : {A : Type 0} (xs : List A) → xs ++ [] ≡ xs
append_nothing [] = refl
append_nothing (x ∷ xs) = ap (λ l. x ∷ l) (append_nothing xs)

-- what a link holds agrees with its maker's answers
pub serves_agree : (t : ℤ) (link : LinkState) (objects : List Object) (maker : MakerState)
    → HasServed t objects maker link.ever link.sent → Agrees t maker.given link
serves_agree t link objects maker serves =
    let none : maker.given ++ [] ≡ maker.given = append_nothing maker.given in
    record {
      ever = ap (λ l. (run_of t l (messages_in link.sent).whole).ever) (sym none)
          ∙ ap (λ (r : Run). r.ever) (serves.run []);
      held = subst (λ l. AreResponsesHeld t (fresh l) (messages_in link.sent).whole) none (serves.held []);
    }

pub ready_of : {M : Type 0} (state : M → MakerState) (link : ServerLinkState M) → IsOpen state link
    → LinkFacts state link → IsReady link.server.time (server_link_state state link)
ready_of state link opened known = record {
  whole = opened.whole;
  given = (state link.server.maker).given;
  agrees = serves_agree link.server.time (server_link_state state link) link.server.objects
      (state link.server.maker) (known.serves opened.fed opened.tells opened.sound);
  within = known.within;
}

-- what stays of a server, as the mark tells
pub time_same : {M : Type 0} (state : M → MakerState) (before after : ServerLinkState M)
    → (server_link_state state after).mark ≡ (server_link_state state before).mark
    → after.server.time ≡ before.server.time
time_same state before after e = times after.server.time before.server.time (cons_same _ _ _ _ e).0

pub tells_same : {M : Type 0} (state : M → MakerState) (before after : ServerLinkState M)
    → (server_link_state state after).mark ≡ (server_link_state state before).mark →
    (state after.server.maker).tells ≡ (state before.server.maker).tells
tells_same state before after e = bits (state after.server.maker).tells
    (state before.server.maker).tells (cons_same _ _ _ _ e).1

pub called_of : AreMessages → AreRequests
    → {M : Type 0} (state : M → MakerState) (before after : ClientState (ServerLinkState M))
    (call : Call) (answer : Answer) → IsReadBack call before.credential →
    IsCall (server_link_state state) (request_of call) before after answer
    → lacks_memory answer ≡ false → IsOpen state before.link → LinkFacts state before.link
    → LinkFacts state after.link →
    after.link.starved ≡ false → after.link.faults ≡ 0 →
    CallEffect state (call_settings before) call before.link after.link
    (code_told (server_link_state state before.link) (server_link_state state after.link)
    (helper_answer call answer) after.request_text after.response_text)
    (loses_connection answer)
called_of responses requests state before after call answer reads is_call room opened known known' fed sound =
    let settings : CallSettings = call_settings before in
    let lb : LinkState = server_link_state state before.link in
    let la : LinkState = server_link_state state after.link in
    let tells : IsTrue (state after.link.server.maker).tells =
    rw (tells_same state before.link after.link is_call.keeps.mark) opened.tells in
    let time : after.link.server.time ≡ before.link.server.time =
    time_same state before.link after.link is_call.keeps.mark in
    let serves : HasServed before.link.server.time after.link.server.objects
    (state after.link.server.maker) after.link.ever after.link.sent =
    rw (← time) (known'.serves fed tells sound) in
    let ready' : after.link.sent ≡ before.link.sent
    → IsReady settings.time (record la { sent = before.link.sent }) = λ same. record {
      whole = opened.whole;
      given = (state after.link.server.maker).given;
      agrees = serves_agree before.link.server.time
          (record la { sent = before.link.sent }) after.link.server.objects
          (state after.link.server.maker)
          (subst (λ l. HasServed before.link.server.time after.link.server.objects
          (state after.link.server.maker) after.link.ever l) same serves);
      within = known'.within;
    } in
    let came =
    came_by responses requests settings call lb la answer after.request_text after.response_text reads (ready_of state before.link opened known) ready' opened.sound sound room
    (is_call.exchange refl) is_call.request_text (is_call.response_text refl) in
    CallEffect.as_expected (record { fed = fed; sound = sound; whole = came.whole; tells = tells }) came
