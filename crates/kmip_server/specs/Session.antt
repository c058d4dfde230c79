-- What `call_all` promises of the calls of a client over a server.
use Rattle.std.specs.Prelude.{◌≡◌, ◌<◌, List, [], ◌∷◌, ◌++◌, true, false, Result, map}
use Rattle.kmip_client.specs.Client.{ClientState, loses_connection, count_after}
use Rattle.kmip_client.specs.Session.{CallReport, GoesOn, held_texts, last_texts, AreRequestTexts}
use Rattle.kmip_client.specs.declared.error.Error.{Error}
use Rattle.kmip_store.specs.Makers.{MakerState}
use Rattle.kmip_store.specs.Runs.{objects_after}
use Rattle.kmip_store.specs.declared.call.Call.{Call}
use Rattle.kmip_server_core.specs.Requests.{request_of}
use Rattle.kmip_server.specs.Calls.{HelperRan, answered_seen, report_of, call_settings, expected_of, finish_of}
use Rattle.kmip_server.specs.Direct.{AllFit, direct, answers_of, answered_calls}
use Rattle.kmip_server.specs.Joined.{has_unsent, ReportsMatch, last_is_lost}
use Rattle.kmip_server.specs.Link.{ServerLinkState, server_link_state, IsOpen, IsNew}
use Rattle.kmip_server.specs.OneCall.{standing, IsLinkAfterCall}
use Rattle.kmip_server.specs.declared.answers.Answered.{Answered}
use Rattle.kmip_server.specs.declared.answers.CallAnswer.{CallAnswer}

-- One call that is reported, which found the client as `before` and left it as `after`.
pub record CallRan {M : Type 0} (state : M → MakerState) (call : Call)
    (before after : ClientState (ServerLinkState M)) (report : CallAnswer) : Type 0 where
  -- its helper ran, and returned the answer
  pub ran : HelperRan (server_link_state state) call before after report.answer
  -- what the link's `sent` grew by
  pub sent : after.link.sent ≡ before.link.sent ++ report.sent
  -- the diagnostics that the client then held
  pub request_text : report.req_diag ≡ after.request_text
  pub response_text : report.res_diag ≡ after.response_text
  -- the link is not starved, and faulted only over the request of this call
  pub link : IsLinkAfterCall call (answered_seen report.answer) after.link

-- One call whose report is lost, since memory ran out before it, in it, or after it.
abbrev pub CallLost : {M : Type 0} → (M → MakerState) → Call → ClientState (ServerLinkState M) →
    ClientState (ServerLinkState M) → Type 0
CallLost state call before after =
    (answer : Result Answered Error) × HelperRan (server_link_state state) call before after answer

-- Over any link: each call was made on the client that the call before left, none after an answer
-- that is a connection error, and none left out before; and these are the reports.
pub data CallsRan {M : Type 0} (state : M → MakerState) :
    List Call → ClientState (ServerLinkState M) → List CallAnswer →
    ClientState (ServerLinkState M) → Type 0 where
  at_end : (client : ClientState (ServerLinkState M)) → CallsRan state [] client [] client
  at_loss : (call : Call) (calls : List Call) (before after : ClientState (ServerLinkState M))
      (report : CallAnswer) → CallRan state call before after report →
      loses_connection (answered_seen report.answer) ≡ true →
      CallsRan state (call ∷ calls) before (report ∷ []) after
  later : (call : Call) (calls : List Call) (before between after : ClientState (ServerLinkState M))
      (report : CallAnswer) (reports : List CallAnswer) →
      CallRan state call before between report → GoesOn (answered_seen report.answer) →
      CallsRan state calls between reports after →
      CallsRan state (call ∷ calls) before (report ∷ reports) after

-- Over any link, where memory ran out: the report of one call is lost, and the calls before it were
-- made and kept the connection. Where no call is to be made, memory does not run out.
pub data CallsCut {M : Type 0} (state : M → MakerState) :
    List Call → ClientState (ServerLinkState M) → ClientState (ServerLinkState M) → Type 0 where
  at_call : (call : Call) (calls : List Call) (before after : ClientState (ServerLinkState M)) →
      CallLost state call before after → CallsCut state (call ∷ calls) before after
  later : (call : Call) (calls : List Call) (before between after : ClientState (ServerLinkState M))
      (report : CallAnswer) → CallRan state call before between report →
      GoesOn (answered_seen report.answer) → CallsCut state calls between after →
      CallsCut state (call ∷ calls) before after

-- a report as that of an exchange
abbrev pub exchange_of : CallAnswer → CallReport
exchange_of report = record {
  answer = answered_seen report.answer;
  request_text = report.req_diag;
  response_text = report.res_diag;
}

-- What `call_all` promises of these calls, which found the client as `before`, left it as `after`
-- and have these reports. `state` is what the maker means.
pub record IsCallSession {M : Type 0} (state : M → MakerState) (calls : List Call)
    (before after : ClientState (ServerLinkState M)) (reports : List CallAnswer) : Type 0 where
  -- which calls were made, and what each did
  pub ran : CallsRan state calls before reports after
  -- the client holds the diagnostics of the last call, and with none those that it held
  pub texts : held_texts after ≡ last_texts (held_texts before) (map exchange_of reports)
  -- each report has the diagnostic of its request
  pub requests : AreRequestTexts before.buffered before.credential (map request_of calls)
      (map exchange_of reports)
  -- one more connection error was counted, modulo 256, exactly if the last answer is one
  pub count : after.errors ≡ count_after before.errors (last_is_lost (map report_of reports))
  -- over an open link: each call is reported as expected, one for one
  pub joined : IsOpen state before.link →
      ReportsMatch (call_settings before) (expected_of state before after.link calls)
      (map report_of reports)
  -- over an open link: the objects, the maker's questions and the bytes left are those expected
  pub finished : IsOpen state before.link →
      standing state after.link ≡ finish_of state before after.link calls
  -- over an open link: it is open again where each response had a wire form
  pub opened : IsOpen state before.link →
      has_unsent (expected_of state before after.link calls) ≡ false → IsOpen state after.link
  -- over an open link: it is faulted where one had none
  pub faulted : IsOpen state before.link →
      has_unsent (expected_of state before after.link calls) ≡ true → 0 < after.link.faults
  -- over a link just made, where all fits: the answers are those of the object map asked directly
  pub direct_answers : IsNew state before.link →
      AllFit (call_settings before) [] (state after.link.server.maker).given calls →
      answers_of (map report_of reports)
      ≡ direct [] (state after.link.server.maker).given calls
  -- over a link just made, where all fits: the objects are those of the object map asked directly
  pub direct_objects : IsNew state before.link →
      AllFit (call_settings before) [] (state after.link.server.maker).given calls →
      after.link.server.objects
      ≡ objects_after [] (answered_calls [] (state after.link.server.maker).given calls)
