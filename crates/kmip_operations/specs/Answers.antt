-- What a response answers to a call of an operation and to a message, as a line of JSON.
use Rattle.std.specs.Prelude.{◌≡◌, ◌≢◌, ℕ, List, [], ◌++◌, take, Option, Some, None, Result, Ok, Err, if◌then◌else◌, option_map}
use Rattle.std.specs.Option.{option_and_then}
use Rattle.kmip_wire.specs.Tree.{Tree}
use Rattle.kmip_wire.specs.Reading.{item_of}
use Rattle.kmip_shape.specs.declared.style.Style.TheVariants.{Json}
use Rattle.kmip_enums.specs.declared.operation.Operation.{Operation}
use Rattle.kmip_plain.specs.Payload.{payload_text}
use Rattle.kmip_plain.specs.declared.payload.PayloadForm.{PayloadForm}
use Rattle.kmip_plain.specs.declared.payload.PayloadForm.TheVariants.{Tree as AsTree}
use Rattle.kmip_client.specs.Operation.{TreeRequest, operation_bytes}
use Rattle.kmip_client.specs.Message.{message_at, taken_for}
use Rattle.kmip_client.specs.Outcome.{OutcomeOf, answer_by, outcome_by}
use Rattle.kmip_client.specs.Untyped.{identified_answer, is_of_other_item}
use Rattle.kmip_client.specs.WholeMessage.{whole_bytes, whole_answer}
use Rattle.kmip_client.specs.declared.error.Error.{Error}
use Rattle.kmip_client.specs.declared.error.Error.TheVariants.{InternalError, OutOfMemory}
use Rattle.kmip_words.specs.About.{objected_ending}
use Rattle.kmip_words.specs.Exchange.{Settings, value_line}
use Rattle.kmip_words.specs.Refusal.{failure_line}
use Rattle.kmip_words.specs.Strays.{error_to, ending_to}
use Rattle.kmip_words.specs.declared.ending.Ending.{Ending}
use Rattle.kmip_words.specs.declared.ending.Ending.TheVariants.{Lost}
use Rattle.kmip_operations.specs.JsonLines.{IsTextLine}
use Rattle.kmip_operations.specs.Objections.{objection}

-- the line of JSON of an answer whose payload has this form, where `first` is the message that was
-- taken; that of an error shows what this message says of it
abbrev pub tree_line : PayloadForm → Result Tree Error → List ℕ → List ℕ
tree_line form (Ok tree) first = value_line (payload_text form tree) Json
tree_line form (Err error) first = failure_line error first

-- what is known of the request of a call, and of none for a message of the caller's

abbrev pub operation_of : Option TreeRequest → Option Operation
operation_of = option_map (λ request. request.operation)

abbrev pub id_of : Option TreeRequest → Option (List ℕ)
id_of = option_and_then (λ request. request.id)

-- why a payload is no answer to a request, where it is none; to a message each is one
abbrev pub objection_to : Option TreeRequest → Tree → Option (List ℕ)
objection_to asked tree = option_and_then (λ request. objection request tree) asked

-- a payload, or the error that says why it is no answer
abbrev pub tree_or : Option (List ℕ) → Tree → Result Tree Error
tree_or (Some text) tree = Err (InternalError text)
tree_or None tree = Ok tree

-- the answer that is shown, to a request or to a message of the caller's: a payload that is none to
-- the request is an error, and a failure of another operation an error of its own
abbrev pub answer_to : Option TreeRequest → Result Tree Error → List ℕ → Result Tree Error
answer_to asked (Ok tree) first = tree_or (objection_to asked tree) tree
answer_to asked (Err error) first = Err (error_to (operation_of asked) error first)

-- how a call with this Unique Batch Item ID ended that was answered with an error: a message that
-- is that of a request with another ID belongs to another call, and so may the next message
abbrev pub ending_for : Option (List ℕ) → List ℕ → Ending → Ending
ending_for id first ending = if is_of_other_item id (item_of 64 first) then Lost else ending

-- how the call ended: a payload that is none to the request belongs to another call, too
abbrev pub tree_ending : Option TreeRequest → Result Tree Error → List ℕ → Ending
tree_ending asked (Ok tree) first = objected_ending (objection_to asked tree)
tree_ending asked (Err error) first =
    ending_for (id_of asked) first (ending_to (operation_of asked) error first)

-- the line of an error was added that a call of this operation, or a message, is answered with,
-- where `first` is the message that was taken, and the error is not `OutOfMemory`
pub record AddsErrorLine (operation : Option Operation) (error : Error) (first : List ℕ)
    (ending : Ending) (old new : List ℕ) : Type 0 where
  pub added : new ≡ old ++ failure_line (error_to operation error first) first
  pub ending_is : ending ≡ ending_to operation error first
  pub json : IsTextLine (failure_line (error_to operation error first) first)
  pub some : error ≢ OutOfMemory

-- the answer, and the bytes that were taken of a response, are those of the outcome, unless memory
-- ran out
abbrev pub IsTreeReply : Result Tree Error → List ℕ → OutcomeOf Tree → List ℕ → Type 0
IsTreeReply answer first outcome response =
    answer ≢ Err OutOfMemory →
    (answer ≡ outcome.answer) × (first ≡ take outcome.taken response)

-- the line of this answer to a request, or to a message, was added, where `first` is the message
-- that was taken, and the answer is not `OutOfMemory`
pub record AddsTreeLine (form : PayloadForm) (asked : Option TreeRequest)
    (answer : Result Tree Error) (first : List ℕ) (ending : Ending) (old new : List ℕ) :
    Type 0 where
  pub added : new ≡ old ++ tree_line form (answer_to asked answer first) first
  pub ending_is : ending ≡ tree_ending asked answer first
  pub json : IsTextLine (tree_line form (answer_to asked answer first) first)
  pub some : answer ≢ Err OutOfMemory

-- the line of JSON of an outcome over these bytes
abbrev pub outcome_line : PayloadForm → Option TreeRequest → OutcomeOf Tree → List ℕ → List ℕ
outcome_line form asked outcome response =
    tree_line form (answer_to asked outcome.answer (take outcome.taken response))
    (take outcome.taken response)

-- and how the call ended
abbrev pub outcome_ending : Option TreeRequest → OutcomeOf Tree → List ℕ → Ending
outcome_ending asked outcome response =
    tree_ending asked outcome.answer (take outcome.taken response)

-- the outcome of a call over these bytes left
abbrev pub operation_outcome : Settings → TreeRequest → List ℕ → OutcomeOf Tree
operation_outcome settings request rest =
    outcome_by (operation_bytes request settings.credential)
    (identified_answer request.operation request.id) settings.limit rest

-- what these bytes answer to a call whose request was sent; nothing more is
abbrev pub sent_outcome : (List ℕ → Result Tree Error) → Settings → List ℕ → OutcomeOf Tree
sent_outcome reads settings response = record {
  sent = [];
  taken = taken_for response (message_at response settings.limit);
  answer = answer_by reads (message_at response settings.limit);
}

-- the line of JSON that says what these bytes answer: of the payload, or of the error
abbrev pub operation_json_line : PayloadForm → Settings → TreeRequest → List ℕ → List ℕ
operation_json_line form settings request response =
    outcome_line form (Some request)
    (sent_outcome (identified_answer request.operation request.id) settings response) response

-- how the call ended that these bytes answer
abbrev pub operation_ending : Settings → TreeRequest → List ℕ → Ending
operation_ending settings request response =
    outcome_ending (Some request)
    (sent_outcome (identified_answer request.operation request.id) settings response) response

-- the same of a message of the caller's, whose answer is shown as a tree; the credential plays no
-- part

abbrev pub message_outcome : Settings → Tree → List ℕ → OutcomeOf Tree
message_outcome settings message rest =
    outcome_by (whole_bytes message) whole_answer settings.limit rest

abbrev pub message_json_line : Settings → List ℕ → List ℕ
message_json_line settings response =
    outcome_line AsTree None (sent_outcome whole_answer settings response) response

abbrev pub message_ending : Settings → List ℕ → Ending
message_ending settings response =
    outcome_ending None (sent_outcome whole_answer settings response) response
