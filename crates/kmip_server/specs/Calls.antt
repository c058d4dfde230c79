-- What a call of a helper returned.
use Rattle.std.specs.Prelude.{◌≡◌, List, Result, Err, IfOk}
use Rattle.kmip_link.specs.State.{LinkState}
use Rattle.kmip_shape.specs.Val.{Val, Text, Record, One, AndField, NoField}
use Rattle.kmip_response.specs.Values.{response_payload_val}
use Rattle.kmip_response.specs.declared.payload.ResponsePayload.TheVariants as payloads
use Rattle.kmip_client.specs.Calls.{IsCall}
use Rattle.kmip_client.specs.Client.{ClientState}
use Rattle.kmip_client.specs.Outcome.{Answer, seen_by}
use Rattle.kmip_client.specs.declared.error.Error.{Error}
use Rattle.kmip_client.specs.declared.error.Error.TheVariants.{OutOfMemory}
use Rattle.kmip_store.specs.declared.call.Call.{Call}
use Rattle.kmip_store.specs.declared.call.Call.TheVariants as calls
use Rattle.kmip_server_core.specs.Requests.{request_of}
use Rattle.kmip_store.specs.Makers.{MakerState}
use Rattle.kmip_server.specs.Joined.{CallSettings, Between, Expected, no_val, helper_answer, JoinedReport, expected_calls, finish}
use Rattle.kmip_server.specs.OneCall.{between}
use Rattle.kmip_server.specs.Link.{ServerLinkState, server_link_state}
use Rattle.kmip_server.specs.declared.answers.Answered.{Answered}
use Rattle.kmip_server.specs.declared.answers.Answered.TheVariants as answered
use Rattle.kmip_server.specs.declared.answers.CallAnswer.{CallAnswer}

-- what a helper returned, as contracts see it
abbrev pub answered_val : Answered → Val
answered_val answered.Unit = no_val
answered_val (answered.Pair private public) =
    Record (AndField (One (Text private)) (AndField (One (Text public)) NoField))
answered_val (answered.Query payload) = response_payload_val (payloads.Query payload)
answered_val (answered.Random payload) = response_payload_val (payloads.RNGRetrieve payload)
answered_val (answered.Signed payload) = response_payload_val (payloads.Sign payload)
answered_val (answered.Renamed payload) = response_payload_val (payloads.ModifyAttribute payload)
answered_val (answered.Got payload) = response_payload_val (payloads.Get payload)

-- its result, as contracts see it
abbrev pub answered_seen : Result Answered Error → Answer
answered_seen = seen_by answered_val

abbrev pub report_of : CallAnswer → JoinedReport
report_of x = record {
  sent = x.sent;
  answer = answered_seen x.answer;
  request_text = x.req_diag;
  response_text = x.res_diag;
}

-- a value of the variant that the call's helper returns
abbrev pub IsOfCall : Call → Answered → Type 0
IsOfCall calls.Query (answered.Query payload) = Unit {0}
IsOfCall (calls.CreateRsaKeyPair bits private public) (answered.Pair first second) = Unit {0}
IsOfCall (calls.RngRetrieve count) (answered.Random payload) = Unit {0}
IsOfCall (calls.Sign id bytes) (answered.Signed payload) = Unit {0}
IsOfCall (calls.ActivateKey id) answered.Unit = Unit {0}
IsOfCall (calls.RevokeKey id) answered.Unit = Unit {0}
IsOfCall (calls.DestroyKey id) answered.Unit = Unit {0}
IsOfCall (calls.RenameKey id name) (answered.Renamed payload) = Unit {0}
IsOfCall (calls.GetKey id) (answered.Got payload) = Unit {0}
IsOfCall call x = ⊥

-- What a helper's call did: its request went over the link, and it returned its part of the answer,
-- in the variant that is its own; or memory ran out before, and nothing changed.
pub data HelperRan {T : Type 0} (state : T → LinkState) (call : Call) (before after : ClientState T)
    (result : Result Answered Error) : Type 0 where
  called : (answer : Answer) → IsCall state (request_of call) before after answer →
      answered_seen result ≡ helper_answer call answer → IfOk result (IsOfCall call) →
      HelperRan state call before after result
  not_made : result ≡ Err OutOfMemory → after ≡ before → HelperRan state call before after result

abbrev pub call_settings : {M : Type 0} → ClientState (ServerLinkState M) → CallSettings
call_settings client = record {
  credential = client.credential;
  limit = client.limit;
  buffered = client.buffered;
  time = client.link.server.time;
}

-- server and client before calls that left the link so, with the maker's answers as they are in the
-- end
abbrev pub before_all : {M : Type 0} → (M → MakerState) → ClientState (ServerLinkState M) →
    ServerLinkState M → Between
before_all state client after =
    between client.link.server.time (state after.server.maker).given
    (server_link_state state client.link)

-- what is to come of the calls, and below what they leave
abbrev pub expected_of : {M : Type 0} → (M → MakerState) → ClientState (ServerLinkState M) →
    ServerLinkState M → List Call → List Expected
expected_of state client after calls =
    expected_calls (call_settings client) (before_all state client after) calls

abbrev pub finish_of : {M : Type 0} → (M → MakerState) → ClientState (ServerLinkState M) →
    ServerLinkState M → List Call → Between
finish_of state client after calls =
    finish (call_settings client) (before_all state client after) calls
