-- Whether an answer is one to its call: about the object that was asked about, and with what was
-- asked for.
use Rattle.std.specs.Prelude.{◌≡◌, ◌≢◌, ℕ, ℤ, pos, List, [], ◌++◌, ◌==◌, length, take, Bool, false, not, ◌&&◌, Option, Some, None, Ok, Err, codes, bytes_eq, int_lt, if◌then◌else◌}
use Rattle.std.specs.Option.{is_some}
use Rattle.kmip_shape.specs.Val.{Val, Text, Bytes, Case}
use Rattle.kmip_types.specs.TheUniqueIdentifier.{UniqueIdentifier}
use Rattle.kmip_request.specs.declared.payload.RequestPayload.{RequestPayload}
use Rattle.kmip_client.specs.Check.{field_at, one_of, text_in}
use Rattle.kmip_client.specs.Message.{message_at, taken_for}
use Rattle.kmip_client.specs.Outcome.{Answer, Outcome, answer_of}
use Rattle.kmip_client.specs.declared.error.Error.TheVariants.{InternalError, OutOfMemory}
use Rattle.kmip_words.specs.Exchange.{Settings, operation_asked, json_line}
use Rattle.kmip_words.specs.JsonLines.{IsJsonLine}
use Rattle.kmip_words.specs.Refusal.{failure_line}
use Rattle.kmip_words.specs.Strays.{error_to, ending_to}
use Rattle.kmip_words.specs.declared.call.Call.{Call}
use Rattle.kmip_words.specs.declared.call.Call.TheVariants.{CreateRsa, Rng, Sign, Activate, Revoke, Destroy, Rename, Get, Request}
use Rattle.kmip_words.specs.declared.ending.Ending.{Ending}
use Rattle.kmip_words.specs.declared.ending.Ending.TheVariants.{Answered, Lost}

abbrev pub identifier_or_none : Option UniqueIdentifier → List ℕ
identifier_or_none (Some id) = id.0
identifier_or_none None = []

-- the Unique Identifier in a request, empty where there is none
abbrev pub named_in : RequestPayload → List ℕ
named_in (RequestPayload.Get id format compression wrapping) = identifier_or_none id
named_in (RequestPayload.GetAttributes id names) = identifier_or_none id
named_in (RequestPayload.GetAttributeList id) = identifier_or_none id
named_in (RequestPayload.AddAttribute id attribute) = identifier_or_none id
named_in (RequestPayload.ModifyAttribute id attribute) = identifier_or_none id
named_in (RequestPayload.DeleteAttribute id name index) = identifier_or_none id
named_in (RequestPayload.Activate id) = identifier_or_none id
named_in (RequestPayload.Revoke id reason date) = identifier_or_none id
named_in (RequestPayload.Destroy id) = identifier_or_none id
named_in (RequestPayload.Sign id parameters bytes) = identifier_or_none id
named_in request = []

-- the Unique Identifier of the object that a call asks about; empty where it names none, so that
-- the server takes that of its ID Placeholder (KMIP 1.0, 4)
abbrev pub asked_about : Call → List ℕ
asked_about (Sign id bytes) = id
asked_about (Activate id) = id
asked_about (Revoke id) = id
asked_about (Destroy id) = id
asked_about (Rename id new_name) = id
asked_about (Get id) = id
asked_about (Request request) = named_in request
asked_about call = []

-- a text, or another where there is none
abbrev pub text_or : Option Val → List ℕ → List ℕ
text_or (Some (Text text)) other = text
text_or val other = other

-- the Unique Identifier in a payload: its first field, or the second after an Object Type (KMIP
-- 1.0, 4.10)
abbrev pub identifier_in : Val → List ℕ
identifier_in (Case n payload) =
    text_or (one_of (field_at 0 payload)) (text_in (one_of (field_at 1 payload)))
identifier_in payload = []

-- whether an identifier was asked about, and another one was answered
abbrev pub differs : List ℕ → List ℕ → Bool
differs asked answered = not (length asked == 0) && not (bytes_eq asked answered)

-- whether an answer is about another object than the call asked about
abbrev pub is_about_another : Call → Val → Bool
is_about_another call payload = differs (asked_about call) (identifier_in payload)

-- ---- answers that lack what was asked for

-- the bytes in the first field of a payload
abbrev pub bytes_or_none : Option Val → List ℕ
bytes_or_none (Some (Bytes bytes)) = bytes
bytes_or_none val = []

abbrev pub random_bytes_in : Val → List ℕ
random_bytes_in (Case n payload) = bytes_or_none (one_of (field_at 0 payload))
random_bytes_in payload = []

-- a server may give fewer bytes than were asked for, but not none (KMIP 1.2, 4.35)
abbrev pub lacks_bytes : ℤ → Val → Bool
lacks_bytes num_bytes payload =
    int_lt (pos 0) num_bytes && (length (random_bytes_in payload) == 0)

-- the identifier that stands second in a payload
abbrev pub second_identifier_in : Val → List ℕ
second_identifier_in (Case n payload) = text_in (one_of (field_at 1 payload))
second_identifier_in payload = []

-- whether the private key and the public key of a pair have one identifier (KMIP 1.0, 4.2)
abbrev pub is_one_key : Val → Bool
is_one_key payload = bytes_eq (identifier_in payload) (second_identifier_in payload)

-- whether a key has the data of its wrapping: the last field of its key block (KMIP 1.0, 2.1.3)
abbrev pub is_wrapped_block : Option Val → Bool
is_wrapped_block (Some block) = is_some (one_of (field_at 5 block))
is_wrapped_block None = false

abbrev pub is_wrapped_object : Option Val → Bool
is_wrapped_object (Some (Case n object)) = is_wrapped_block (one_of (field_at 0 object))
is_wrapped_object object = false

-- whether the object in an answer to Get, its third field, is wrapped (KMIP 1.0, 4.10)
abbrev pub is_wrapped : Val → Bool
is_wrapped (Case n payload) = is_wrapped_object (one_of (field_at 2 payload))
is_wrapped payload = false

abbrev pub one_key_text : List ℕ
one_key_text = codes "answer with one identifier for two keys"

-- why an answer without a new object's identifier is none
abbrev pub no_identifier_text : List ℕ
no_identifier_text = codes "answer without an identifier"

-- what an answer that names a new object lacks (KMIP 1.0, 4.1 and 4.3)
abbrev pub identifier_lack : Val → Option (List ℕ)
identifier_lack payload =
    if length (identifier_in payload) == 0 then Some no_identifier_text else None

-- what an answer that names the two keys of a pair lacks
abbrev pub pair_lack : Val → Option (List ℕ)
pair_lack payload =
    if is_one_key payload then Some one_key_text
    else if length (identifier_in payload) == 0 then Some no_identifier_text
    else if length (second_identifier_in payload) == 0 then Some no_identifier_text
    else None

-- the signature in an answer to Sign, its second field (KMIP 1.2, 4.31)
abbrev pub signature_in : Val → List ℕ
signature_in (Case n payload) = bytes_or_none (one_of (field_at 1 payload))
signature_in payload = []

abbrev pub signature_lack : Val → Option (List ℕ)
signature_lack payload =
    if length (signature_in payload) == 0 then Some (codes "answer without a signature") else None

-- what an answer to a request lacks
abbrev pub request_lack : RequestPayload → Val → Option (List ℕ)
request_lack (RequestPayload.Get id format compression (Some wrapping)) payload =
    if is_wrapped payload then None else Some (codes "answer with an object that is not wrapped")
request_lack (RequestPayload.Create type template) payload = identifier_lack payload
request_lack (RequestPayload.CreateKeyPair common private public) payload = pair_lack payload
request_lack (RequestPayload.Register type template object) payload = identifier_lack payload
request_lack (RequestPayload.Sign id parameters bytes) payload = signature_lack payload
request_lack request payload = None

-- what an answer to a call lacks, where it lacks something
abbrev pub call_lack : Call → Val → Option (List ℕ)
call_lack (Rng num_bytes) payload =
    if lacks_bytes num_bytes payload then Some (codes "answer without random bytes") else None
call_lack (CreateRsa key_length private_key_name public_key_name) payload = pair_lack payload
call_lack (Sign id bytes) payload = signature_lack payload
call_lack (Request request) payload = request_lack request payload
call_lack call payload = None

-- why a payload is no answer to the call, where it is none
abbrev pub objection : Call → Val → Option (List ℕ)
objection call payload =
    if is_about_another call payload then Some (codes "answer for another object")
    else call_lack call payload

-- ---- what is answered

abbrev pub answer_or : Option (List ℕ) → Val → Answer
answer_or (Some text) payload = Err (InternalError text)
answer_or None payload = Ok payload

-- the answer that is shown, where `first` is the response's first message: an error in place of one
-- that is none, and in place of a failure of another operation
abbrev pub answer_about : Call → Answer → List ℕ → Answer
answer_about call (Ok payload) first = answer_or (objection call payload) payload
answer_about call (Err error) first = Err (error_to (Some (operation_asked call)) error first)

abbrev pub objected_ending : Option (List ℕ) → Ending
objected_ending (Some text) = Lost
objected_ending None = Answered

-- how the call ended: a response that is none to this call belongs to another one, so the link is
-- lost
abbrev pub ending_about : Call → Answer → List ℕ → Ending
ending_about call (Ok payload) first = objected_ending (objection call payload)
ending_about call (Err error) first = ending_to (Some (operation_asked call)) error first

-- the answer, and the bytes that were taken of a response, are those of the outcome, unless memory
-- ran out
abbrev pub IsReply : Answer → List ℕ → Outcome → List ℕ → Type 0
IsReply answer first outcome response =
    answer ≢ Err OutOfMemory →
    (answer ≡ outcome.answer) × (first ≡ take outcome.taken response)

-- the line of JSON of an answer; that of an error shows what the response says of it
abbrev pub line_with : Call → Answer → List ℕ → List ℕ
line_with call (Ok payload) response = json_line call (Ok payload)
line_with call (Err error) response = failure_line error response

-- the line of this answer, of which `Is` holds, was added, where `first` is the response's first
-- message, and the answer is not `OutOfMemory`
pub record AddsLineAs (Is : List ℕ → Type 0) (call : Call) (answer : Answer) (first : List ℕ)
    (ending : Ending) (old new : List ℕ) : Type 0 where
  pub added : new ≡ old ++ line_with call (answer_about call answer first) first
  pub ending_is : ending ≡ ending_about call answer first
  pub json : Is (line_with call (answer_about call answer first) first)
  pub some : answer ≢ Err OutOfMemory

abbrev pub AddsLine : Call → Answer → List ℕ → Ending → List ℕ → List ℕ → Type 0
AddsLine = AddsLineAs IsJsonLine

-- the line of JSON that says what an outcome over these bytes answers to a call
abbrev pub outcome_line : Call → Outcome → List ℕ → List ℕ
outcome_line call outcome response =
    line_with call (answer_about call outcome.answer (take outcome.taken response))
    (take outcome.taken response)

-- how a call with this outcome over these bytes ended
abbrev pub outcome_ending : Call → Outcome → List ℕ → Ending
outcome_ending call outcome response =
    ending_about call outcome.answer (take outcome.taken response)

-- what these bytes answer to a call whose request was sent; nothing more is
abbrev pub response_outcome : Settings → Call → List ℕ → Outcome
response_outcome settings call response = record {
  sent = [];
  taken = taken_for response (message_at response settings.limit);
  answer = answer_of (operation_asked call) (message_at response settings.limit);
}

-- the line of JSON that says what these bytes answer to a call, of which a first part is taken
abbrev pub response_line : Settings → Call → List ℕ → List ℕ
response_line settings call response =
    outcome_line call (response_outcome settings call response) response

-- how the call ended that these bytes answer
abbrev pub response_ending : Settings → Call → List ℕ → Ending
response_ending settings call response =
    outcome_ending call (response_outcome settings call response) response
