-- A call as it is told, and as the program tells it.
use Rattle.std.proofs.Common.{◌≡◌, ◌≢◌, ℕ, List, take, refl, ◌∙◌, ap, Bool, Option, Some, None, Ok, Err, IfOk, inr}
use Rattle.kmip_enums.specs.declared.operation.Operation.{Operation}
use Rattle.kmip_shape.specs.Val.{Val}
use Rattle.kmip_shape.specs.declared.style.Style.TheVariants.{Bare}
use Rattle.kmip_client.specs.Client.{IsOfOperation}
use Rattle.kmip_client.specs.Diagnostics.{diagnostic_of, IsRequestText, IsResponseText}
use Rattle.kmip_client.specs.Message.{Message, message_at}
use Rattle.kmip_client.specs.Outcome.{Answer, outcome_of, answer_of, seen_by, given}
use Rattle.kmip_client.specs.Session.{response_text_of}
use Rattle.kmip_client.specs.declared.error.Error.TheVariants.{SerializeError, RequestWriteError, OutOfMemory}
use Rattle.kmip_client.proofs.Headlines.{seen_variant}
use Rattle.kmip_client.proofs.MessageAnswers.{OfMessages, message_says}
use Rattle.kmip_store.specs.declared.call.Call.{Call}
use Rattle.kmip_server_core.specs.Requests.{call_operation}
use Rattle.kmip_server.specs.Calls.{IsOfCall, report_of}
use Rattle.kmip_server.specs.Joined.{CallSettings, turn_with, joined_report}
use Rattle.kmip_server.specs.declared.answers.CallAnswer.{CallAnswer}
use Rattle.kmip_words.specs.Exchange.{diagnostic_lines, value_in_style, step_of}
use Rattle.kmip_words.proofs.Diagnostics.{told_of}
use Rattle.kmip_joined.specs.Lines.{line_call}
use Rattle.kmip_joined.specs.Reports.{ReportsStep}
use Rattle.kmip_joined.proofs.Shown.{shown_is}

-- no outcome is want of memory

no_memory : OfMessages (λ answer. answer ≢ Err OutOfMemory)
no_memory = record {
  ok = λ payload e. cc;
  malformed = λ text e. cc;
  internal = λ text e. cc;
  server = λ text e. cc;
  not_found = λ text e. cc;
}

some_message : (operation : Operation) (here : Message) → answer_of operation here ≢ Err OutOfMemory
some_message operation Message.Ended = λ e. cc
some_message operation (Message.Refused error) = λ e. cc
some_message operation (Message.Whole m) = message_says no_memory operation m

some_answer : (request : Option (List ℕ)) (operation : Operation) (limit : Option ℕ) (rest : List ℕ)
    → (outcome_of request operation limit rest).answer ≢ Err OutOfMemory
some_answer None operation limit rest = λ e. cc
some_answer (Some bytes) operation limit rest = some_message operation (message_at rest limit)

-- the diagnostics that are told are those of what was sent and taken

request_text : (buffered : Bool) (request : Option (List ℕ)) (answer : Answer)
    → IsRequestText buffered request answer (diagnostic_of buffered request)
request_text buffered request (Ok payload) = refl
request_text buffered request (Err OutOfMemory) = inr refl
request_text buffered request (Err error) = refl

response_text : (buffered : Bool) (taken : List ℕ) (answer : Answer)
    → IsResponseText buffered taken answer (response_text_of buffered taken answer)
response_text buffered taken (Ok payload) = refl
response_text buffered taken (Err OutOfMemory) = inr refl
response_text buffered taken (Err (SerializeError reason)) = refl
response_text buffered taken (Err (RequestWriteError reason)) = refl
response_text buffered taken (Err error) = refl

-- a payload has the variant of the call's operation

seen_itself : (answer : Answer) → seen_by (λ (v : Val). v) answer ≡ answer
seen_itself (Ok payload) = refl
seen_itself (Err error) = refl

of_operation : (request : Option (List ℕ)) (operation : Operation) (limit : Option ℕ)
    (rest : List ℕ) → IfOk (outcome_of request operation limit rest).answer
    (IsOfOperation operation)
of_operation None operation limit rest = tt
of_operation (Some bytes) operation limit rest =
    seen_variant {before = 0} {after = 0} (λ (v : Val). v) (Some bytes) operation limit
    (answer_of operation (message_at rest limit))
    (given refl rest (seen_itself (answer_of operation (message_at rest limit))))

-- so a call that was told as a turn is told as its step says
pub told_as : (settings : CallSettings) (call : Call) (request : Option (List ℕ)) (rest : List ℕ)
    (x : CallAnswer) → report_of x ≡ joined_report settings call
    (turn_with settings call request rest) →
    IfOk x.answer (IsOfCall call) →
    ReportsStep (step_of (λ payload. value_in_style (line_call call) payload Bare)
    Bare settings.buffered rest (outcome_of request (call_operation call) settings.limit rest))
    settings.buffered x
told_as settings call request rest x is fits =
    let o = outcome_of request (call_operation call) settings.limit rest in
    let b : Bool = settings.buffered in
    let shown = shown_is call o.answer x.answer (ap (λ t. t.answer) is)
    (of_operation request (call_operation call) settings.limit rest) fits in
    record {
      sent = ap (λ t. t.sent) is;
      texts = ap (λ t. diagnostic_lines b t.request_text t.response_text) is
          ∙ told_of b request (call_operation call) settings.limit rest o.taken o.answer _ _ refl
          (some_answer request (call_operation call) settings.limit rest) refl
          (request_text b request o.answer) (response_text b (take o.taken rest) o.answer);
      shown = shown.0;
      failed = shown.1;
    }
