-- Calls that were made one after the other, and their reports.
use Rattle.std.proofs.Common.{◌≡◌, ℕ, List, [], ◌∷◌, ◌++◌, length, drop, refl, ◌∙◌, ap, sym, subst, append_assoc, append-nil, Option, Bool, true, false, Result, Ok, Err, map}
use Rattle.std.proofs.Math.Seq.{drop-append_seam}
use Rattle.kmip_link.specs.State.{LinkState}
use Rattle.kmip_request.specs.Message.{request_bytes}
use Rattle.kmip_types.specs.declared.auth.CredentialType.{CredentialType}
use Rattle.kmip_client.specs.Client.{ClientState, loses_connection, lacks_memory}
use Rattle.kmip_client.specs.Diagnostics.{diagnostic_of}
use Rattle.kmip_client.specs.Outcome.{Answer, Outcome, Exchanged, completed, write_failed, read_failed, sending_cut, reading_cut}
use Rattle.kmip_client.specs.Session.{GoesOn, Texts, held_texts, last_texts, AreRequestTexts}
use Rattle.kmip_client.specs.declared.error.Error.{Error}
use Rattle.kmip_client.specs.declared.error.Error.TheVariants.{ConfigurationError, SerializeError, RequestWriteError, ResponseReadError, DeserializeError, ServerError, InternalError, ItemNotFound, Unknown, OutOfMemory}
use Rattle.kmip_store.specs.Makers.{MakerState}
use Rattle.kmip_store.specs.declared.call.Call.{Call}
use Rattle.kmip_server_core.specs.Requests.{request_of}
use Rattle.kmip_server.specs.Calls.{HelperRan, called, not_made, answered_seen}
use Rattle.kmip_server.specs.Link.{ServerLinkState, server_link_state}
use Rattle.kmip_server.specs.OneCall.{IsLinkAfterCall}
use Rattle.kmip_server.specs.Session.{CallRan, CallLost, CallsRan, CallsCut, exchange_of}
use Rattle.kmip_server.specs.declared.answers.Answered.{Answered}
use Rattle.kmip_server.specs.declared.answers.CallAnswer.{CallAnswer}
use Rattle.kmip_server.proofs.Ones.{helped_room}
use Rattle.kmip_server.proofs.Opened.{request_is}

-- ---- one call

-- the bytes that it sent
moved : {o : Outcome} {before after : LinkState} {answer : Answer} → Exchanged o before after answer
    → (more : List ℕ) × (after.sent ≡ before.sent ++ more)
moved (completed is moves) = (_, moves.sent_is)
moved (write_failed is rose n h moves) = (_, moves.sent_is)
moved (read_failed is rose n h moves) = (_, moves.sent_is)
moved (sending_cut is n h moves) = (_, moves.sent_is)
moved (reading_cut is n h moves) = (_, moves.sent_is)

sent_more : {M : Type 0} (state : M → MakerState) {call : Call}
    {before after : ClientState (ServerLinkState M)} {result : Result Answered Error}
    → HelperRan (server_link_state state) call before after result →
    (more : List ℕ) × (after.link.sent ≡ before.link.sent ++ more)
sent_more state (called answer is_call is fits) = moved (is_call.exchange refl)
sent_more state {before = before} (not_made is stays) = (
  [],
  ap (λ (c : ClientState (ServerLinkState _)). c.link.sent) stays
      ∙ sym (append-nil before.link.sent),
)

-- a call as the code reports it
pub ran_as : {M : Type 0} (state : M → MakerState) (call : Call)
    (before after : ClientState (ServerLinkState M)) (result : Result Answered Error)
    → HelperRan (server_link_state state) call before after result →
    IsLinkAfterCall call (answered_seen result) after.link →
    CallRan state call before after
    (record {
      sent = drop (length before.link.sent) after.link.sent;
      answer = result;
      req_diag =
          after.request_text;
      res_diag = after.response_text;
    })
ran_as state call before after result ran link =
    let more = sent_more state ran in
    record {
      ran = ran;
      sent = more.1 ∙ ap (λ l. before.link.sent ++ l)
          (sym (ap (λ l. drop (length before.link.sent) l) more.1
          ∙ drop-append_seam before.link.sent more.0));
      request_text = refl;
      response_text = refl;
      link = link;
    }

-- the same, where the code looked at the client on the way
pub ran_so : {M : Type 0} (state : M → MakerState)
    (before looked after checked reported : ClientState (ServerLinkState M)) (call : Call)
    (result : Result Answered Error) (from : ℕ) (x : CallAnswer) →
    looked ≡ before → HelperRan (server_link_state state) call looked after result
    → from ≡ length before.link.sent → IsLinkAfterCall call (answered_seen result) after.link
    → checked ≡ after → reported ≡ checked →
    x ≡ record {
      sent = drop from checked.link.sent;
      answer = result;
      req_diag =
          checked.request_text;
      res_diag = checked.response_text;
    }
    → CallRan state call before reported x
ran_so state before looked after checked reported call result from x same ran is link checked_is reported_is x_is =
    rw (reported_is, x_is, checked_is, is)
    (ran_as state call before after result
    (subst (λ (b : ClientState (ServerLinkState _)).
    HelperRan (server_link_state state) call b after result) same ran) link)

-- a call whose report is lost
pub lost_so : {M : Type 0} (state : M → MakerState)
    (before looked after last : ClientState (ServerLinkState M)) (call : Call)
    (result : Result Answered Error) → looked ≡ before
    → HelperRan (server_link_state state) call looked after result → last ≡ after →
    CallLost state call before last
lost_so state before looked after last call result same ran last_is = (
  result,
  rw last_is (subst (λ (b : ClientState (ServerLinkState _)). HelperRan
      (server_link_state state) call b after result) same ran),
)

-- and one that was not made
pub lost_before : {M : Type 0} (state : M → MakerState) (client : ClientState (ServerLinkState M))
    (call : Call) → CallLost state call client client
lost_before state client call = (Err OutOfMemory, not_made refl refl)

pub lost_after : {M : Type 0} {state : M → MakerState} {call : Call}
    {before after : ClientState (ServerLinkState M)} {report : CallAnswer}
    → CallRan state call before after report → CallLost state call before after
lost_after {report = report} ran = (report.answer, ran.ran)

-- ---- calls on their way

-- These calls were made of the first, with these reports; whatever is made of the rest completes them.
pub record Chain {M : Type 0} (state : M → MakerState) (calls : List Call)
    (start now : ClientState (ServerLinkState M)) (reports : List CallAnswer)
    (rest : List Call) : Type 0 where
  pub ran : (more : List CallAnswer) (after : ClientState (ServerLinkState M))
      → CallsRan state rest now more after → CallsRan state calls start (reports ++ more) after
  pub cut : (after : ClientState (ServerLinkState M)) → CallsCut state rest now after → CallsCut state calls start after

pub chain_on : {M : Type 0} {state : M → MakerState} {calls : List Call}
    {start now next : ClientState (ServerLinkState M)} {reports : List CallAnswer} {call : Call}
    {rest : List Call} {report : CallAnswer} →
    Chain state calls start now reports (call ∷ rest) → CallRan state call now next report
    → GoesOn (answered_seen report.answer)
    → Chain state calls start next (reports ++ report ∷ []) rest
chain_on {state = state} {calls = calls} {start = start} {now = now} {next = next}
    {reports = reports} {call = call} {rest = rest} {report = report} chain made on = record {
      ran = λ more after ran. subst (λ l. CallsRan state calls start l after)
          (sym (append_assoc reports (report ∷ []) more))
          (chain.ran (report ∷ more)
          after (CallsRan.later call rest now next after report more made on ran));
      cut = λ after cut. chain.cut after (CallsCut.later call rest now next after report made on cut);
    }

pub chain_lost : {M : Type 0} {state : M → MakerState} {calls : List Call}
    {start now next : ClientState (ServerLinkState M)} {reports : List CallAnswer} {call : Call}
    {rest : List Call} {report : CallAnswer} →
    Chain state calls start now reports (call ∷ rest) → CallRan state call now next report
    → loses_connection (answered_seen report.answer) ≡ true
    → CallsRan state calls start (reports ++ report ∷ []) next
chain_lost {now = now} {next = next} {call = call} {rest = rest} {report = report} chain made lost =
    chain.ran (report ∷ []) next (CallsRan.at_loss call rest now next report made lost)

pub chain_end : {M : Type 0} {state : M → MakerState} {calls : List Call}
    {start now : ClientState (ServerLinkState M)} {reports : List CallAnswer}
    → Chain state calls start now reports [] → CallsRan state calls start reports now
chain_end {state = state} {calls = calls} {start = start} {now = now} {reports = reports} chain =
    subst (λ l. CallsRan state calls start l now) (append-nil reports)
    (chain.ran [] now (CallsRan.at_end now))

pub chain_cut : {M : Type 0} {state : M → MakerState} {calls : List Call}
    {start now next : ClientState (ServerLinkState M)} {reports : List CallAnswer} {call : Call}
    {rest : List Call} →
    Chain state calls start now reports (call ∷ rest) → CallLost state call now next → CallsCut state calls start next
chain_cut {now = now} {next = next} {call = call} {rest = rest} chain lost =
    chain.cut next (CallsCut.at_call call rest now next lost)

-- ---- the diagnostics of calls

pub ran_texts : {M : Type 0} {state : M → MakerState} {calls : List Call}
    {before after : ClientState (ServerLinkState M)} {reports : List CallAnswer}
    → CallsRan state calls before reports after →
    held_texts after ≡ last_texts (held_texts before) (map exchange_of reports)
ran_texts (CallsRan.at_end client) = refl
ran_texts (CallsRan.at_loss call calls before after report ran lost) = rw (ran.request_text, ran.response_text) refl
ran_texts (CallsRan.later call calls before between after report reports ran on more) =
    let held : held_texts between ≡ (report.req_diag, report.res_diag) =
    rw (ran.request_text, ran.response_text) refl in
    ran_texts more ∙ ap (λ (texts : Texts). last_texts texts (map exchange_of reports)) held

-- a call that lost its connection had memory
lost_room : (answer : Answer) → loses_connection answer ≡ true → lacks_memory answer ≡ false
lost_room (Ok val) h = refl
lost_room (Err (ConfigurationError t)) h = refl
lost_room (Err (SerializeError t)) h = refl
lost_room (Err (RequestWriteError t)) h = refl
lost_room (Err (ResponseReadError t)) h = refl
lost_room (Err (DeserializeError t)) h = refl
lost_room (Err (ServerError t)) h = refl
lost_room (Err (InternalError t)) h = refl
lost_room (Err (ItemNotFound t)) h = refl
lost_room (Err (Unknown t)) h = refl
lost_room (Err OutOfMemory) h = absurd (let e : false ≡ true = h in cc)

-- what a call keeps of its client, and the diagnostic of its request
record Kept {M : Type 0} (call : Call) (before after : ClientState (ServerLinkState M)) : Type 0 where
  pub buffered : after.buffered ≡ before.buffered
  pub credential : after.credential ≡ before.credential
  pub text : after.request_text ≡ diagnostic_of before.buffered (request_bytes (request_of call) before.credential)

kept_by : {M : Type 0} (state : M → MakerState) {call : Call}
    {before after : ClientState (ServerLinkState M)} {result : Result Answered Error}
    → HelperRan (server_link_state state) call before after result
    → lacks_memory (answered_seen result) ≡ false → Kept call before after
kept_by state {call = call} {before = before} {after = after} (called answer is_call is fits) room = record {
  buffered = is_call.buffered;
  credential = is_call.credential;
  text = request_is before.buffered (request_bytes (request_of call) before.credential)
      answer after.request_text is_call.request_text
      (sym (helped_room call answer) ∙ ap lacks_memory (sym is) ∙ room);
}
kept_by state {result = result} (not_made is stays) room =
    absurd (let e : lacks_memory (answered_seen result) ≡ true =
    ap (λ r. lacks_memory (answered_seen r)) is in cc)

pub ran_requests : {M : Type 0} (state : M → MakerState) {calls : List Call}
    {before after : ClientState (ServerLinkState M)} {reports : List CallAnswer} (buffered : Bool)
    (credential : Option CredentialType) → before.buffered ≡ buffered
    → before.credential ≡ credential →
    CallsRan state calls before reports after
    → AreRequestTexts buffered credential (map request_of calls) (map exchange_of reports)
ran_requests state buffered credential b c (CallsRan.at_end client) = tt
ran_requests state buffered credential b c (CallsRan.at_loss call calls before after report ran lost) =
    let kept = kept_by state ran.ran (lost_room (answered_seen report.answer) lost) in (
      ran.request_text ∙ kept.text ∙ ap
          (λ x. diagnostic_of x (request_bytes (request_of call) before.credential)) b
          ∙ ap (λ x. diagnostic_of buffered (request_bytes (request_of call) x)) c,
      tt,
    )
ran_requests state buffered credential b c (CallsRan.later call calls before between after report reports ran on more) =
    let kept = kept_by state ran.ran on.1 in (
      ran.request_text ∙ kept.text ∙ ap
          (λ x. diagnostic_of x (request_bytes (request_of call) before.credential)) b
          ∙ ap (λ x. diagnostic_of buffered (request_bytes (request_of call) x)) c,
      ran_requests state buffered credential (kept.buffered ∙ b) (kept.credential ∙ c) more,
    )
