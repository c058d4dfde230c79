-- What a call does to its sink and its source, and its answer.
use Rattle.std.specs.Prelude.{◌≡◌, ℕ, List, [], ◌++◌, take, Option, Some, None, codes, IsTrue}
use Rattle.kmip_link.specs.State.{SourceState, SinkState, FaultCountRose, source_left}
use Rattle.kmip_shape.specs.declared.style.Style.TheVariants.{Json}
use Rattle.kmip_wire.specs.Tree.{Tree}
use Rattle.kmip_client.specs.Operation.{TreeRequest, operation_bytes}
use Rattle.kmip_client.specs.WholeMessage.{whole_bytes}
use Rattle.kmip_client.specs.declared.error.Error.{Error}
use Rattle.kmip_client.specs.declared.error.Error.TheVariants.{SerializeError, RequestWriteError, ResponseReadError}
use Rattle.kmip_words.specs.Streams.{Gives, GivesPart, WrotePart, WroteProperPart}
use Rattle.kmip_words.specs.Exchange.{Settings, request_asked, or_empty, error_line}
use Rattle.kmip_words.specs.declared.call.Call.{Call}
use Rattle.kmip_words.specs.declared.ending.Ending.{Ending}
use Rattle.kmip_words.specs.declared.ending.Ending.TheVariants.{Refused, Lost}
use Rattle.kmip_plain.specs.declared.payload.PayloadForm.{PayloadForm}
use Rattle.kmip_operations.specs.Answers.{operation_json_line, operation_ending, message_json_line, message_ending}
use Rattle.kmip_operations.specs.AnyPayload.{call_line, call_ending}
use Rattle.kmip_caller.specs.Wire.{taken_at, IsOneAtMost}

-- What a call sends, and what it makes of the bytes that come back.
pub record Exchange : Type 0 where
  -- its one canonical message, where it has one
  pub message : Option (List ℕ)
  -- the same without a credential, but for that of a message of the caller's
  pub without_credential : Option (List ℕ)
  -- the line of JSON of what these bytes answer, and how the call ended
  pub line : List ℕ → List ℕ
  pub ending : List ℕ → Ending

-- a typed call of kmip_words
abbrev pub typed_exchange : Settings → Call → Exchange
typed_exchange settings call = record {
  without_credential = (request_asked call None).message;
  message = (request_asked call settings.credential).message;
  line = call_line settings call;
  ending = call_ending settings call;
}

-- a call of any operation, with this form of the payload in its answer
abbrev pub operation_exchange : PayloadForm → Settings → TreeRequest → Exchange
operation_exchange form settings request = record {
  message = operation_bytes request settings.credential;
  without_credential = operation_bytes request None;
  line = operation_json_line form settings request;
  ending = operation_ending settings request;
}

-- a whole message of the caller's
abbrev pub message_exchange : Settings → Tree → Exchange
message_exchange settings message = record {
  message = whole_bytes message;
  without_credential = whole_bytes message;
  line = message_json_line settings;
  ending = message_ending settings;
}

-- The bytes are those of the message at the front of the bytes left, and answer what all of these
-- do.
pub record Takes (limit : Option ℕ) (exchange : Exchange) (s0 s1 : SourceState) (bytes : List ℕ) : Type 0 where
  pub gives : Gives s0 s1 (taken_at (source_left s0) limit)
  pub bytes_are : bytes ≡ take (taken_at (source_left s0) limit) (source_left s0)
  pub line_is : exchange.line bytes ≡ exchange.line (source_left s0)
  pub ending_is : exchange.ending bytes ≡ exchange.ending (source_left s0)

-- the line of an error that no bytes say
abbrev pub failure_line : Error → List ℕ
failure_line error = error_line error Json

-- what is said where the sink or the source failed: that it did, and the reason, where the system
-- gives one
pub data IsLinkFailed (text : List ℕ) : Type 0 where
  bare : text ≡ codes "link failed" → IsLinkFailed text
  with_reason : (reason : List ℕ) → text ≡ codes "link failed: " ++ reason → IsLinkFailed text

-- A call took its sink and its source from the states `0` to the states `1`, ended so and has this
-- line for its answer. What is said of bytes holds where contracts know those of the sink, or of
-- the source.
pub data Carried (limit : Option ℕ) (exchange : Exchange) (w0 w1 : SinkState) (s0 s1 : SourceState)
    (response : Option (List ℕ)) (line : List ℕ) (ending : Ending) : Type 0 where
  -- the request has no wire form: nothing was sent, and nothing was read
  not_sent : exchange.message ≡ None → response ≡ Some [] →
      line ≡ failure_line (SerializeError (codes "request has no wire form")) → ending ≡ Refused →
      w1 ≡ w0 → s1 ≡ s0 → Carried limit exchange w0 w1 s0 s1 response line ending
  -- the request was sent, and at most one message was read: the answer is what its bytes say, which
  -- is what all the bytes left say
  answered : (request : List ℕ) → exchange.message ≡ Some request →
      (bytes : List ℕ) → response ≡ Some bytes → line ≡ exchange.line bytes →
      ending ≡ exchange.ending bytes → IsOneAtMost limit bytes →
      (IsTrue w0.tells → w1.sent ≡ w0.sent ++ request) →
      (IsTrue s0.tells → Takes limit exchange s0 s1 bytes) →
      Carried limit exchange w0 w1 s0 s1 response line ending
  -- the sink failed: a proper part of the request was sent, and nothing was read
  write_failed : (request : List ℕ) → exchange.message ≡ Some request → response ≡ None →
      (text : List ℕ) → IsLinkFailed text → line ≡ failure_line (RequestWriteError text) →
      ending ≡ Lost → FaultCountRose w0.faults w1.faults →
      (IsTrue w0.tells → WroteProperPart w0 w1 request) → s1 ≡ s0 →
      Carried limit exchange w0 w1 s0 s1 response line ending
  -- the source failed: the request was sent, and a part of the message was read
  read_failed : (request : List ℕ) → exchange.message ≡ Some request → response ≡ None →
      (text : List ℕ) → IsLinkFailed text → line ≡ failure_line (ResponseReadError text) →
      ending ≡ Lost → FaultCountRose s0.faults s1.faults →
      (IsTrue w0.tells → w1.sent ≡ w0.sent ++ request) →
      (IsTrue s0.tells → GivesPart s0 s1 (taken_at (source_left s0) limit)) →
      Carried limit exchange w0 w1 s0 s1 response line ending

-- how many of the bytes left a call takes at most: none where it has no wire form
abbrev pub most_taken : Option (List ℕ) → List ℕ → Option ℕ → ℕ
most_taken None rest limit = 0
most_taken (Some request) rest limit = taken_at rest limit

-- Of a call no more was sent than its request, and no more was taken than one message.
pub record CarriedPart (limit : Option ℕ) (exchange : Exchange) (w0 w1 : SinkState) (s0 s1 : SourceState) : Type 0 where
  pub sent : IsTrue w0.tells → WrotePart w0 w1 (or_empty exchange.message)
  pub taken : IsTrue s0.tells → GivesPart s0 s1 (most_taken exchange.message (source_left s0) limit)
