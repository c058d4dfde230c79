-- The object map asked directly, and when a client over a server comes to the same.
use Rattle.std.specs.Prelude.{◌≡◌, ℕ, ◌≤◌, List, [], ◌∷◌, Option, Some, None, Ok, Err, codes, length, map}
use Rattle.kmip_response.specs.Values.{response_payload_val}
use Rattle.kmip_response.specs.declared.payload.ResponsePayload.{ResponsePayload}
use Rattle.kmip_request.specs.Message.{request_bytes}
use Rattle.kmip_response_write.specs.Settled.{response_bytes}
use Rattle.kmip_client.specs.Check.{failed_text}
use Rattle.kmip_client.specs.Outcome.{Answer}
use Rattle.kmip_client.specs.declared.error.Error.TheVariants.{ServerError, ItemNotFound, InternalError}
use Rattle.kmip_store.specs.declared.call.Call.{Call}
use Rattle.kmip_store.specs.declared.object.Object.{Object}
use Rattle.kmip_store.specs.declared.maker.Made.{Made}
use Rattle.kmip_store.specs.Runs.{AnsweredCall}
use Rattle.kmip_store.specs.Steps.{Answer as Reply, NotFound, Denied, Failed, question, step}
use Rattle.kmip_server_core.specs.Requests.{request_of, call_operation}
use Rattle.kmip_server_core.specs.Items.{payload_for}
use Rattle.kmip_server_core.specs.Served.{served_call}
use Rattle.kmip_server.specs.Machine.{first_for, rest_for}
use Rattle.kmip_server.specs.Joined.{CallSettings, part_for, JoinedReport}

-- what a helper returns where a call was done; no call has the payload of another
abbrev pub done_answer : Call → Option ResponsePayload → Answer
done_answer call None =
    Err (InternalError (codes "Unable to process response payload due to wrong deserialized type!"))
done_answer call (Some payload) = Ok (part_for call (response_payload_val payload))

-- a reply of the object map, as a client's helper returns it
abbrev pub reply_answer : Call → Reply → Answer
reply_answer call NotFound =
    Err (ItemNotFound (failed_text (call_operation call) (codes "no such object")))
reply_answer call Denied =
    Err (ServerError (failed_text (call_operation call) (codes "not allowed in this state")))
reply_answer call Failed =
    Err (ServerError (failed_text (call_operation call) (codes "maker failed")))
reply_answer call reply = done_answer call (payload_for call reply)

-- the answers of the object map to these calls, with the maker's answers in order
abbrev pub direct : List Object → List Made → List Call → List Answer
direct objects given [] = []
direct objects given (call ∷ calls) =
    let q = question objects call in
    let s = step objects call (first_for q given) in
    reply_answer call s.answer ∷ direct s.objects (rest_for q given) calls

-- these calls, each with the maker's answer where it asks for one, which takes them in order
abbrev pub answered_calls : List Object → List Made → List Call → List AnsweredCall
answered_calls objects given [] = []
answered_calls objects given (call ∷ calls) =
    let q = question objects call in
    record { call = call; made = first_for q given }
    ∷ answered_calls (step objects call (first_for q given)).objects (rest_for q given) calls

abbrev pub IsWithinLimit : Option ℕ → List ℕ → Type 0
IsWithinLimit None bytes = Unit {0}
IsWithinLimit (Some limit) bytes = length bytes ≤ limit

-- The request of a call is valid, and the response to it has a wire form within the limit.
pub record OneFits (settings : CallSettings) (objects : List Object) (call : Call)
    (made : Option Made) : Type 0 where
  pub request : List ℕ
  pub valid : request_bytes (request_of call) settings.credential ≡ Some request
  pub response : List ℕ
  pub formed : response_bytes (served_call objects call made settings.time).message ≡ Some response
  pub within : IsWithinLimit settings.limit response

-- So it is for each call in order.
abbrev pub AllFit : CallSettings → List Object → List Made → List Call → Type 0
AllFit settings objects given [] = Unit {0}
AllFit settings objects given (call ∷ calls) =
    let q = question objects call in
    OneFits settings objects call (first_for q given)
    × AllFit settings (step objects call (first_for q given)).objects (rest_for q given) calls

abbrev pub answers_of : List JoinedReport → List Answer
answers_of xs = map (λ (x : JoinedReport). x.answer) xs
