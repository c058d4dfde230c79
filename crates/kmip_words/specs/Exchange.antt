-- What a call of the client sends, takes and shows.
use Rattle.std.specs.Prelude.{◌≡◌, ◌≢◌, ℕ, ◌+◌, List, [], ◌++◌, take, drop, Bool, true, false, cond, Option, Some, None, Result, Ok, Err, codes}
use Rattle.hex.specs.Hex.{encode_upper}
use Rattle.kmip_link.specs.Plan.{MemoryState}
use Rattle.kmip_shape.specs.Val.{Val, Text, Record, Case, AndField, NoField, One}
use Rattle.kmip_shape.specs.Shape.{Shape, case_at}
use Rattle.kmip_shape.specs.Shown.{shown_in_style, text_in_style}
use Rattle.kmip_shape.specs.declared.style.Style.{Style}
use Rattle.kmip_shape.specs.declared.style.Style.TheVariants.{Bare, Json}
use Rattle.kmip_diag.specs.Diagnostic.{diagnostic}
use Rattle.kmip_enums.specs.declared.operation.Operation.{Operation}
use Rattle.kmip_types.specs.declared.auth.CredentialType.{CredentialType}
use Rattle.kmip_request.specs.Message.{request_bytes, operation_of}
use Rattle.kmip_request.specs.declared.payload.RequestPayload.{RequestPayload}
use Rattle.kmip_request_read.specs.Reading.{Request as RequestRead, message_bytes}
use Rattle.kmip_response.specs.Tables.{response_payload, response_payloads, query_payload, rng_retrieve_payload, sign_payload, attribute_edit_payload, get_payload}
use Rattle.kmip_client.specs.Client.{ClientState}
use Rattle.kmip_client.specs.Errors.{error_shown, error_text}
use Rattle.kmip_client.specs.Outcome.{Answer, Outcome, outcome_of}
use Rattle.kmip_client.specs.Requests.{query_request, key_pair_request, rng_request, sign_request, activate_request, revoke_request, destroy_request, rename_request, get_request}
use Rattle.kmip_client.specs.declared.error.Error.{Error}
use Rattle.kmip_client.specs.declared.error.Error.TheVariants.{ConfigurationError, SerializeError, RequestWriteError, ResponseReadError, DeserializeError, ServerError, InternalError, ItemNotFound, Unknown, OutOfMemory}
use Rattle.kmip_words.specs.declared.call.Call.{Call}
use Rattle.kmip_words.specs.declared.call.Call.TheVariants.{Query, CreateRsa, Rng, Sign, Activate, Revoke, Destroy, Rename, Get, Raw, Request}
use Rattle.kmip_words.specs.declared.ending.Ending.{Ending}
use Rattle.kmip_words.specs.declared.ending.Ending.TheVariants.{Answered, Refused, Lost}

-- the settings of a client for its calls
pub record Settings : Type 0 where
  pub credential : Option CredentialType
  -- the most bytes that a response may have, its head counted
  pub limit : Option ℕ
  -- whether diagnostics are kept
  pub buffered : Bool

abbrev pub settings_of : {T : Type 0} → ClientState T → Settings
settings_of client =
    record { credential = client.credential; limit = client.limit; buffered = client.buffered }

-- what a call asks for: its one canonical message, where it has one, and its operation
pub record Asked : Type 0 where
  pub message : Option (List ℕ)
  pub operation : Operation

abbrev pub asked_of : RequestPayload → Option CredentialType → Asked
asked_of payload credential =
    record { message = request_bytes payload credential; operation = operation_of payload }

-- what `raw` asks for; the credential is the client's, not that in the bytes
abbrev pub raw_asked : RequestRead → Option CredentialType → Asked
raw_asked request credential =
    record { message = message_bytes request credential; operation = request.operation }

abbrev pub request_asked : Call → Option CredentialType → Asked
request_asked Query = asked_of query_request
request_asked (CreateRsa key_length private_key_name public_key_name) =
    asked_of (key_pair_request key_length private_key_name public_key_name)
request_asked (Rng num_bytes) = asked_of (rng_request num_bytes)
request_asked (Sign id bytes) = asked_of (sign_request id bytes)
request_asked (Activate id) = asked_of (activate_request id)
request_asked (Revoke id) = asked_of (revoke_request id)
request_asked (Destroy id) = asked_of (destroy_request id)
request_asked (Rename id new_name) = asked_of (rename_request id new_name)
request_asked (Get id) = asked_of (get_request id)
request_asked (Raw request) = raw_asked request
request_asked (Request payload) = asked_of payload

-- the request is that of the call, with whatever credential
abbrev pub IsRequestOf : RequestPayload → Call → Type 0
IsRequestOf payload call =
    (credential : Option CredentialType) → asked_of payload credential ≡ request_asked call
    credential

-- the operation of a call's request
abbrev pub operation_asked : Call → Operation
operation_asked call = (request_asked call None).operation

-- the identifiers of the two keys of a pair, in round brackets or as a JSON object
abbrev pub pair_in_style : List ℕ → List ℕ → Style → List ℕ
pair_in_style first second Bare =
    codes "(" ++ (text_in_style first Bare ++ (codes "," ++ (text_in_style second Bare ++ codes ")")))
pair_in_style first second Json =
    codes "{\"private_key\":"
    ++ (text_in_style first Json
    ++ (codes ",\"public_key\":" ++ (text_in_style second Json ++ codes "}")))

-- a payload of two texts, as a pair
abbrev pub texts_in_style : Val → Style → List ℕ
texts_in_style (Case n (Record (AndField (One (Text first)) (AndField (One (Text second)) NoField))))
    style = pair_in_style first second style
texts_in_style payload style = []

-- what is shown where a call returns nothing but that it was done
abbrev pub done_in_style : Style → List ℕ
done_in_style Bare = codes "()"
done_in_style Json = codes "{}"

-- a payload as its record, without the name of its operation
abbrev pub record_in_style : Shape → Val → Style → List ℕ
record_in_style shape (Case n payload) style = shown_in_style shape payload style
record_in_style shape payload style = shown_in_style shape payload style

-- the same, by the number of the payload's operation
abbrev pub payload_in_style : Val → Style → List ℕ
payload_in_style (Case n payload) style =
    elim (case_at response_payloads n) [ None ↦ [] | Some c ↦ shown_in_style c.shape payload style ]
payload_in_style payload style = []

-- the answer to a request, as that of a helper's call of the same operation
abbrev pub request_in_style : RequestPayload → Val → Style → List ℕ
request_in_style (RequestPayload.CreateKeyPair common private public) payload = texts_in_style payload
request_in_style (RequestPayload.Activate id) payload = done_in_style
request_in_style (RequestPayload.Revoke id reason date) payload = done_in_style
request_in_style (RequestPayload.Destroy id) payload = done_in_style
request_in_style request payload = payload_in_style payload

-- what is shown of the payload that a call returns
abbrev pub value_in_style : Call → Val → Style → List ℕ
value_in_style Query payload = record_in_style query_payload payload
value_in_style (CreateRsa key_length private_key_name public_key_name) payload = texts_in_style payload
value_in_style (Rng num_bytes) payload = record_in_style rng_retrieve_payload payload
value_in_style (Sign id bytes) payload = record_in_style sign_payload payload
value_in_style (Activate id) payload = done_in_style
value_in_style (Revoke id) payload = done_in_style
value_in_style (Destroy id) payload = done_in_style
value_in_style (Rename id new_name) payload = record_in_style attribute_edit_payload payload
value_in_style (Get id) payload = record_in_style get_payload payload
value_in_style (Raw request) payload = shown_in_style response_payload payload
value_in_style (Request request) payload = request_in_style request payload

-- the name of an error's variant
abbrev pub error_name : Error → List ℕ
error_name (ConfigurationError text) = codes "ConfigurationError"
error_name (SerializeError text) = codes "SerializeError"
error_name (RequestWriteError text) = codes "RequestWriteError"
error_name (ResponseReadError text) = codes "ResponseReadError"
error_name (DeserializeError text) = codes "DeserializeError"
error_name (ServerError text) = codes "ServerError"
error_name (InternalError text) = codes "InternalError"
error_name (ItemNotFound text) = codes "ItemNotFound"
error_name (Unknown text) = codes "Unknown"
error_name OutOfMemory = codes "OutOfMemory"

-- the line of an error
abbrev pub error_line : Error → Style → List ℕ
error_line error Bare = codes "- " ++ (error_shown error ++ codes "\n")
error_line error Json =
    codes "{\"error\":\""
    ++ (error_name error
    ++ (codes "\",\"text\":" ++ (text_in_style (error_text error) Json ++ codes "}\n")))

-- the line of a value, given its text
abbrev pub value_line : List ℕ → Style → List ℕ
value_line value Bare = codes "= " ++ (value ++ codes "\n")
value_line value Json = codes "{\"answer\":" ++ (value ++ codes "}\n")

-- the line of an answer, where `value` gives the text of its value
abbrev pub answer_line : {R : Type 0} → (R → List ℕ) → Style → Result R Error → List ℕ
answer_line value style (Ok payload) = value_line (value payload) style
answer_line value style (Err error) = error_line error style

-- an answer as a line of JSON
abbrev pub json_line : Call → Answer → List ℕ
json_line call = answer_line (λ payload. value_in_style call payload Json) Json

abbrev pub is_error : {R : Type 0} → Result R Error → Bool
is_error (Ok payload) = false
is_error (Err error) = true

-- After this error the link is to be closed: it failed, ended, or gave bytes that are no message.
abbrev pub loses_link : Error → Bool
loses_link (RequestWriteError text) = true
loses_link (ResponseReadError text) = true
loses_link (DeserializeError text) = true
loses_link error = false

-- how a call with this error ended
abbrev pub error_ending : Error → Ending
error_ending error = cond (loses_link error) Lost Refused

-- how a call with this answer ended
abbrev pub ending_of : {R : Type 0} → Result R Error → Ending
ending_of (Ok payload) = Answered
ending_of (Err error) = error_ending error

-- whether the answer of the call is an error
abbrev pub fails : Ending → Bool
fails Answered = false
fails Refused = true
fails Lost = true

abbrev pub or_empty : Option (List ℕ) → List ℕ
or_empty (Some text) = text
or_empty None = []

-- the lines of the diagnostics of a request and of its response, where they are kept
abbrev pub diagnostic_lines : Bool → Option (List ℕ) → Option (List ℕ) → List ℕ
diagnostic_lines true request response =
    codes ">~ " ++ (or_empty request ++ (codes "\n<~ " ++ (or_empty response ++ codes "\n")))
diagnostic_lines false request response = []

-- what a call sends and how many bytes it takes, the lines of its diagnostics and of its answer,
-- whether the answer is an error, and how the call ends
pub record Step : Type 0 where
  pub sent : List ℕ
  pub taken : ℕ
  pub diagnostics : List ℕ
  pub shown : List ℕ
  pub failed : Bool
  pub ending : Ending

-- the lines of a call: what it sent, its diagnostics and its answer
abbrev pub call_text : Step → List ℕ
call_text s = codes "> " ++ (encode_upper s.sent ++ (codes "\n" ++ (s.diagnostics ++ s.shown)))

-- the step with this outcome; its diagnostics are those of the bytes sent and of the bytes taken
abbrev pub step_of : (Val → List ℕ) → Style → Bool → List ℕ → Outcome → Step
step_of value style buffered rest o = record {
  sent = o.sent;
  taken = o.taken;
  diagnostics = diagnostic_lines buffered (Some (diagnostic (Some 0x4200) o.sent))
      (Some (diagnostic (Some 0x4200) (take o.taken rest)));
  shown = answer_line value style o.answer;
  failed = is_error o.answer;
  ending = ending_of o.answer;
}

-- the outcome of a call over these bytes left
abbrev pub call_outcome : Settings → Call → List ℕ → Outcome
call_outcome settings call rest =
    outcome_of (request_asked call settings.credential).message
    (request_asked call settings.credential).operation
    settings.limit rest

-- what a call comes to over these bytes left, with its answer in this style
abbrev pub step_in : Style → Settings → Call → List ℕ → Step
step_in style settings call rest =
    step_of (λ payload. value_in_style call payload style) style settings.buffered rest
    (call_outcome settings call rest)

-- the same in the style of a script
abbrev pub step : Settings → Call → List ℕ → Step
step = step_in Bare

-- the line of this answer was added, and the answer is not `OutOfMemory`
pub record Shows {R : Type 0} (value : R → List ℕ) (style : Style) (answer : Result R Error)
    (ending : Ending) (old new : List ℕ) : Type 0 where
  pub shown : new ≡ old ++ answer_line value style answer
  pub ending_is : ending ≡ ending_of answer
  pub some : answer ≢ Err OutOfMemory

-- what a call did to its client and its link, and the line that it added
pub record Answers (s : Step) (before after : ClientState MemoryState) (ending : Ending)
    (old new : List ℕ) : Type 0 where
  pub settings : settings_of after ≡ settings_of before
  pub diagnostics : diagnostic_lines after.buffered after.request_text after.response_text ≡ s.diagnostics
  pub shown : new ≡ old ++ s.shown
  pub failed_is : fails ending ≡ s.failed
  pub ending_is : ending ≡ s.ending
  pub ever : after.link.ever ≡ before.link.ever
  pub sent : after.link.sent ≡ before.link.sent ++ s.sent
  pub pos : after.link.pos ≡ before.link.pos + s.taken
  pub left : drop after.link.pos after.link.ever ≡
      drop s.taken (drop before.link.pos before.link.ever)
