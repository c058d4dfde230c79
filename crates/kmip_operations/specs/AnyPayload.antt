-- What bytes answer to a typed call, also where its tables have no words for the payload: an object
-- or an attribute of a kind that they lack (KMIP 1.0, 4.10 Get and 4.11 Get Attributes).
use Rattle.std.specs.Prelude.{◌≡◌, ◌&&◌, ℕ, List, [], ◌∷◌, take, is_some, Bool, true, false, Option, Some, None, Result, Ok, Err, codes, bytes_eq, if◌then◌else◌}
use Rattle.std.specs.List.{list_any}
use Rattle.std.specs.Option.{option_and_then}
use Rattle.std.specs.Result.{result_ok}
use Rattle.kmip_tags.specs.Tags as tags
use Rattle.kmip_wire.specs.Tree.{Tree}
use Rattle.kmip_request.specs.declared.payload.RequestPayload.{RequestPayload}
use Rattle.kmip_enums.specs.declared.operation.Operation.{Operation}
use Rattle.kmip_enums.specs.declared.operation.Operation.TheVariants as operations
use Rattle.kmip_plain.specs.declared.payload.PayloadForm.TheVariants.{Tree as AsTree}
use Rattle.kmip_client.specs.Message.{Message, message_at, taken_for}
use Rattle.kmip_client.specs.Outcome.{Answer, answer_by, answer_of}
use Rattle.kmip_client.specs.Untyped.{identified_answer}
use Rattle.kmip_client.specs.declared.error.Error.{Error}
use Rattle.kmip_client.specs.declared.error.Error.TheVariants.{InternalError}
use Rattle.kmip_words.specs.Exchange.{Settings, operation_asked}
use Rattle.kmip_words.specs.Refusal.{item_with}
use Rattle.kmip_words.specs.About.{asked_about, differs, response_line, response_ending}
use Rattle.kmip_words.specs.declared.call.Call.{Call}
use Rattle.kmip_words.specs.declared.call.Call.TheVariants.{Get, Request}
use Rattle.kmip_words.specs.declared.ending.Ending.{Ending}
use Rattle.kmip_words.specs.declared.ending.Ending.TheVariants.{Answered, Lost}
use Rattle.kmip_operations.specs.Answers.{tree_line}
use Rattle.kmip_operations.specs.JsonLines.{IsTextLine}
use Rattle.kmip_operations.specs.Objections.{first_identifier}

-- whether a call fetches what the server has: by Get, where no wrapping is asked for, or by Get
-- Attributes
abbrev pub is_fetch : Call → Bool
is_fetch (Get id) = true
is_fetch (Request (RequestPayload.Get id format compression None)) = true
is_fetch (Request (RequestPayload.GetAttributes id names)) = true
is_fetch call = false

-- whether the typed reading has no words for a message
abbrev pub is_unread : Answer → Bool
is_unread (Err (InternalError text)) = bytes_eq text (codes "not a response message")
is_unread answer = false

-- the tags of objects (KMIP 1.2, 2.2), and that of a certificate request, an object since KMIP 2.0
abbrev pub object_tags : List ℕ
object_tags =
    tags.CERTIFICATE ∷ tags.SYMMETRIC_KEY ∷ tags.PUBLIC_KEY ∷ tags.PRIVATE_KEY ∷ tags.SPLIT_KEY
    ∷ tags.TEMPLATE ∷ tags.SECRET_DATA ∷ tags.OPAQUE_OBJECT ∷ tags.PGP_KEY
    ∷ tags.CERTIFICATE_REQUEST ∷ []

abbrev pub has_item : Tree → ℕ → Bool
has_item payload tag = is_some (item_with tag payload)

-- whether a payload has what the operation fetches: that of Get a type and an object (KMIP 1.0, 4.10)
abbrev pub has_fetched : Operation → Tree → Bool
has_fetched operations.Get payload =
    has_item payload tags.OBJECT_TYPE && list_any (has_item payload) object_tags
has_fetched operation payload = true

abbrev pub if_fetched : Operation → Tree → Option Tree
if_fetched operation payload = if has_fetched operation payload then Some payload else None

-- the payload of a success of this operation, as a tree, where the typed reading has no words for
-- the message, and the payload has what is fetched
abbrev pub unread_payload : Operation → Message → Option Tree
unread_payload operation here =
    if is_unread (answer_of operation here)
    then option_and_then (if_fetched operation)
    (result_ok (answer_by (identified_answer operation None) here))
    else None

-- such a payload, where the call fetches
abbrev pub fetched_payload : Call → Message → Option Tree
fetched_payload call here =
    if is_fetch call then unread_payload (operation_asked call) here else None

-- the answer to a call that asked about this identifier: an error where the payload is about another
-- object
abbrev pub answer_with : List ℕ → Tree → Result Tree Error
answer_with asked payload =
    if differs asked (first_identifier payload)
    then Err (InternalError (codes "answer for another object"))
    else Ok payload

-- how the call ended: the response about another object belongs to another call
abbrev pub answer_ending : Result Tree Error → Ending
answer_ending (Ok payload) = Answered
answer_ending (Err error) = Lost

-- the line and the ending are those of a payload that answers a call about this identifier, where
-- `first` is the message that was taken
pub record AnswersWith (asked : List ℕ) (payload : Tree) (first : List ℕ) (ending : Ending)
    (line : List ℕ) : Type 0 where
  pub line_is : line ≡ tree_line AsTree (answer_with asked payload) first
  pub ending_is : ending ≡ answer_ending (answer_with asked payload)
  pub json : IsTextLine line

-- the line and the ending of such a payload, where there is one, and else these, where `first` is the
-- message that was taken

abbrev pub line_or : List ℕ → Call → Option Tree → List ℕ → List ℕ
line_or line call (Some payload) first =
    tree_line AsTree (answer_with (asked_about call) payload) first
line_or line call None first = line

abbrev pub ending_or : Ending → Call → Option Tree → Ending
ending_or ending call (Some payload) = answer_ending (answer_with (asked_about call) payload)
ending_or ending call None = ending

-- the line of JSON that says what these bytes answer to a typed call
abbrev pub call_line : Settings → Call → List ℕ → List ℕ
call_line settings call response =
    line_or (response_line settings call response) call
    (fetched_payload call (message_at response settings.limit))
    (take (taken_for response (message_at response settings.limit)) response)

-- how the call ended that these bytes answer
abbrev pub call_ending : Settings → Call → List ℕ → Ending
call_ending settings call response =
    ending_or (response_ending settings call response) call
    (fetched_payload call (message_at response settings.limit))
