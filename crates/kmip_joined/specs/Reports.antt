-- What a call of a client over a server in memory did.
use Rattle.std.specs.Prelude.{◌≡◌, ℕ, pos, List, [], ◌∷◌, ◌++◌, Bool, Result, Ok, Err}
use Rattle.kmip_shape.specs.Shown.{shown_in_style}
use Rattle.kmip_shape.specs.declared.style.Style.TheVariants.{Bare}
use Rattle.kmip_response.specs.Tables.{query_payload, rng_retrieve_payload, sign_payload, attribute_edit_payload, get_payload}
use Rattle.kmip_response.specs.Values.{query_payload_val, rng_retrieve_payload_val, sign_payload_val, attribute_edit_payload_val, get_payload_val}
use Rattle.kmip_wire.specs.declared.memory.OutOfMemory.{OutOfMemory}
use Rattle.kmip_words.specs.declared.ending.Ending.{Ending}
use Rattle.kmip_words.specs.declared.ending.Ending.TheVariants.{Answered as ended}
use Rattle.kmip_store.specs.declared.call.Call.{Call}
use Rattle.kmip_store.specs.Plain.{PlainMemory, plain_state, plain_answers}
use Rattle.kmip_client.specs.Client.{ClientState}
use Rattle.kmip_server.specs.Calls.{call_settings}
use Rattle.kmip_server.specs.Session.{IsCallSession}
use Rattle.kmip_server.specs.Link.{ServerLinkState, LinkFacts, IsOpen}
use Rattle.kmip_server.specs.declared.answers.Answered.{Answered}
use Rattle.kmip_server.specs.declared.answers.Answered.TheVariants as answered
use Rattle.kmip_server.specs.declared.answers.CallAnswer.{CallAnswer}
use Rattle.kmip_words.specs.Exchange.{Step, answer_line, call_text, done_in_style, is_error, pair_in_style, diagnostic_lines}
use Rattle.kmip_joined.specs.World.{World, Joined}

-- calls can go over the link, and its server's time stamp is 0
pub record IsJoined (link : ServerLinkState PlainMemory) : Type 0 where
  pub is_open : IsOpen plain_state link
  pub time : link.server.time ≡ pos 0

-- the answers of the maker are those by their numbers
abbrev pub HasPlainAnswers : ServerLinkState PlainMemory → Type 0
HasPlainAnswers link = link.server.maker.given ≡ plain_answers 0 link.server.maker.asked

-- what a helper returned, as it is shown
abbrev pub answered_shown : Answered → List ℕ
answered_shown answered.Unit = done_in_style Bare
answered_shown (answered.Pair first second) = pair_in_style first second Bare
answered_shown (answered.Query payload) =
    shown_in_style query_payload (query_payload_val payload) Bare
answered_shown (answered.Random payload) =
    shown_in_style rng_retrieve_payload (rng_retrieve_payload_val payload) Bare
answered_shown (answered.Signed payload) =
    shown_in_style sign_payload (sign_payload_val payload) Bare
answered_shown (answered.Renamed payload) =
    shown_in_style attribute_edit_payload (attribute_edit_payload_val payload) Bare
answered_shown (answered.Got payload) = shown_in_style get_payload (get_payload_val payload) Bare

-- What is known of a call that was made, whose report is the one in the list: the link is not
-- faulted, its maker's answers are those by their numbers, and the call did what `call_all` says.
pub record IsMade (before after : ClientState (ServerLinkState PlainMemory)) (call : Call)
    (answers : List CallAnswer) : Type 0 where
  pub known : LinkFacts plain_state before.link
  pub plain : HasPlainAnswers before.link
  pub plain_after : HasPlainAnswers after.link
  pub sound : after.link.faults ≡ 0
  pub settings : call_settings after ≡ call_settings before
  pub session : IsCallSession plain_state (call ∷ []) before after answers

-- the report of a call is that of this step
pub record ReportsStep (s : Step) (buffered : Bool) (report : CallAnswer) : Type 0 where
  pub sent : report.sent ≡ s.sent
  pub texts : diagnostic_lines buffered report.req_diag report.res_diag ≡ s.diagnostics
  pub shown : answer_line answered_shown Bare report.answer ≡ s.shown
  pub failed : is_error report.answer ≡ s.failed

-- how a call ended whose payload was to be added as a line
abbrev pub ended_so : Result (Unit {0}) OutOfMemory → Result Ending OutOfMemory
ended_so (Ok _) = Ok ended
ended_so (Err error) = Err error

-- what a call did to the client and its server, and to the text
pub record Runs (it : Joined) (after : World) (failed : Bool) (old new : List ℕ) : Type 0 where
  pub text : new ≡ old ++ call_text it.step
  pub failed_is : failed ≡ it.step.failed
  pub world : after ≡ it.after

-- the text was added of each step that has this report
pub record IsShown (buffered : Bool) (report : CallAnswer) (failed : Bool) (old new : List ℕ) : Type
    0 where
  pub text : (s : Step) → ReportsStep s buffered report → new ≡ old ++ call_text s
  pub failed_is : failed ≡ is_error report.answer
