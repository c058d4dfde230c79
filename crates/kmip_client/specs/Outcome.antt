-- What one exchange sends, takes and answers, and what a call did to its link. A call of any kind
-- has the bytes of its request, and its reading: what a whole message answers. So the definitions
-- take these two, and those of a request of KMIP's tables stand below, by their payload and
-- operation.
use Rattle.std.specs.Prelude.{◌≡◌, ℕ, ◌+◌, ◌<◌, ◌≤◌, List, [], ◌++◌, length, take, drop, Option, Some, None, Result, Ok, Err, codes, IsTrue, IsSome}
use Rattle.kmip_tags.specs.Tags.{RESPONSE_MESSAGE}
use Rattle.std.specs.Fmt.{decimal}
use Rattle.kmip_wire.specs.Tree.{Tree}
use Rattle.kmip_wire.specs.Reading.{item_of}
use Rattle.kmip_wire.specs.declared.error.HeadError.{HeadError}
use Rattle.kmip_wire.specs.declared.error.HeadError.TheVariants.{NotStructure, TooLong}
use Rattle.kmip_shape.specs.Val.{Val}
use Rattle.kmip_shape.specs.Reads.{root_read}
use Rattle.kmip_enums.specs.declared.operation.Operation.{Operation}
use Rattle.kmip_types.specs.declared.auth.CredentialType.{CredentialType}
use Rattle.kmip_request.specs.Message.{request_bytes, operation_of}
use Rattle.kmip_request.specs.declared.payload.RequestPayload.{RequestPayload}
use Rattle.kmip_response.specs.Tables.{response_message}
use Rattle.kmip_response.specs.Values.{response_payload_val}
use Rattle.kmip_response.specs.declared.payload.ResponsePayload.{ResponsePayload}
use Rattle.kmip_link.specs.State.{LinkState, FaultCountRose, IsIdle, Writes, Keeps}
use Rattle.kmip_client.specs.Transfer.{Grows, Takes}
use Rattle.kmip_client.specs.declared.error.Error.{Error}
use Rattle.kmip_client.specs.declared.error.Error.TheVariants.{SerializeError, RequestWriteError, ResponseReadError, DeserializeError, InternalError, OutOfMemory}
use Rattle.kmip_client.specs.declared.message.MessageStop.{MessageStop}
use Rattle.kmip_client.specs.Message.{Message, message_at, taken_for}
use Rattle.kmip_client.specs.Check.{check_response}

-- what the code returned, as contracts see it, by the value of what it holds
abbrev pub seen_by : {P A : Type 0} → (P → A) → Result P Error → Result A Error
seen_by val (Ok payload) = Ok (val payload)
seen_by val (Err error) = Err error

-- ---- any reading

-- what a whole message answers, whose payloads are seen as of type A
abbrev pub ReadingOf : Type 0 → Type 0
ReadingOf A = List ℕ → Result A Error

abbrev pub refused_text : HeadError → List ℕ
refused_text NotStructure = codes "not a structure"
refused_text (TooLong size limit) =
    codes "response size " ++ (decimal size ++ (codes " exceeds limit " ++ decimal limit))

-- what stands at the front of the bytes left answers, by the reading of a whole message
abbrev pub answer_by : {A : Type 0} → (List ℕ → Result A Error) → Message → Result A Error
answer_by reads Message.Ended = Err (ResponseReadError (codes "end of input"))
answer_by reads (Message.Refused error) = Err (DeserializeError (refused_text error))
answer_by reads (Message.Whole m) = reads m

pub record OutcomeOf (A : Type 0) : Type 0 where
  -- the bytes that are sent
  pub sent : List ℕ
  -- how many bytes are taken
  pub taken : ℕ
  pub answer : Result A Error

-- what an exchange of these request bytes comes to on these bytes left, where neither the link nor
-- memory fails
abbrev pub outcome_by : {A : Type 0} → Option (List ℕ) → (List ℕ → Result A Error) → Option ℕ →
    List ℕ → OutcomeOf A
outcome_by None reads limit rest =
    record {
      sent = [];
      taken = 0;
      answer = Err (SerializeError (codes "request has no wire form"));
    }
outcome_by (Some request) reads limit rest =
    record {
      sent = request;
      taken = taken_for rest (message_at rest limit);
      answer = answer_by reads (message_at rest limit);
    }

-- the bytes left to read, as they stood after the writing
abbrev pub left_for : LinkState → LinkState → List ℕ
left_for before after = drop before.pos after.ever

-- these bytes were sent, and so many taken
pub record Moves (before after : LinkState) (sent : List ℕ) (taken : ℕ) : Type 0 where
  pub sent_is : after.sent ≡ before.sent ++ sent
  pub pos : after.pos ≡ before.pos + taken
  -- what became readable came at the end
  pub ever : Grows before after
  pub still : IsTrue before.still → after.ever ≡ before.ever

-- how a call ended that should come to this outcome
pub data Exchanged {A : Type 0} (o : OutcomeOf A) (before after : LinkState)
    (answer : Result A Error) : Type 0 where
  -- as it should
  completed : answer ≡ o.answer → Moves before after o.sent o.taken →
      Exchanged o before after answer
  -- the link failed before it took the whole request
  write_failed : answer ≡ Err (RequestWriteError (codes "link failed")) →
      FaultCountRose before.faults after.faults →
      (n : ℕ) → n < length o.sent → Moves before after (take n o.sent) 0 →
      Exchanged o before after answer
  -- it failed while the response was read
  read_failed : answer ≡ Err (ResponseReadError (codes "link failed")) →
      FaultCountRose before.faults after.faults →
      (n : ℕ) → n ≤ o.taken → Moves before after o.sent n → Exchanged o before after answer
  -- memory ran out before the whole request was sent
  sending_cut : answer ≡ Err OutOfMemory →
      (n : ℕ) → n ≤ length o.sent → Moves before after (take n o.sent) 0 →
      Exchanged o before after answer
  -- memory ran out afterwards
  reading_cut : answer ≡ Err OutOfMemory →
      (n : ℕ) → n ≤ o.taken → Moves before after o.sent n → Exchanged o before after answer

-- The link failed while the response was read: it took the whole request and then stood as
-- `between`; from there on n bytes were read, at most as many as the outcome takes, and its count
-- of faults rose.
pub record FailsReading {T : Type 0} (state : T → LinkState) (request : Option (List ℕ))
    (most : ℕ) (before after : T) : Type 0 where
  pub message : List ℕ
  pub request_is : request ≡ Some message
  pub between : T
  pub writes : Writes (state before) (state between) message
  pub keeps : Keeps (state before) (state between)
  pub n : ℕ
  pub within : n ≤ most
  pub takes : Takes (state between) (state after) n
  pub later : Keeps (state between) (state after)
  pub rose : FaultCountRose (state between).faults (state after).faults

-- The link failed while the request was written: it took a proper part of it and then stood as
-- `between`; from there on no byte moved, and its count of faults rose.
pub record FailsWriting {T : Type 0} (state : T → LinkState) (request : Option (List ℕ))
    (before after : T) : Type 0 where
  pub message : List ℕ
  pub request_is : request ≡ Some message
  pub between : T
  pub n : ℕ
  pub within : n < length message
  pub writes : Writes (state before) (state between) (take n message)
  pub keeps : Keeps (state before) (state between)
  pub idle : IsIdle (state between) (state after)
  pub later : Keeps (state between) (state after)
  pub rose : FaultCountRose (state between).faults (state after).faults

-- the answer after a failed writing
abbrev pub writing_failed : {A : Type 0} → Result A Error
writing_failed = Err (RequestWriteError (codes "link failed"))

-- the answer after a failed reading
abbrev pub reading_failed : {A : Type 0} → Result A Error
reading_failed = Err (ResponseReadError (codes "link failed"))

-- this answer, or out of memory
abbrev pub Gives : {A : Type 0} → Result A Error → Result A Error → Type 0
Gives expected (Err OutOfMemory) = Unit {0}
Gives expected answer = answer ≡ expected

-- what is answered after a message was read, or was not
abbrev pub reading_answer : {A : Type 0} → (List ℕ → Result A Error) → List ℕ →
    Result (Unit {0}) MessageStop → Result A Error
reading_answer reads taken (Ok _) = reads taken
reading_answer reads taken (Err MessageStop.Ended) = answer_by reads Message.Ended
reading_answer reads taken (Err (MessageStop.Refused error)) =
    answer_by reads (Message.Refused error)
reading_answer reads taken (Err MessageStop.Fault) = reading_failed
reading_answer reads taken (Err MessageStop.OutOfMemory) = Err OutOfMemory

-- Why a call answered so, over any link, which may tell nothing.
pub data Caused {A : Type 0} (request : Option (List ℕ)) (reads : List ℕ → Result A Error)
    (limit : Option ℕ) (before after : ℕ) (answer : Result A Error) : Type 0 where
  -- the request has no canonical bytes
  not_valid : request ≡ None → answer ≡ Err (SerializeError (codes "request has no wire form")) →
      Caused request reads limit before after answer
  write_failed : IsSome request → answer ≡ Err (RequestWriteError (codes "link failed")) →
      FaultCountRose before after → Caused request reads limit before after answer
  read_failed : IsSome request → answer ≡ Err (ResponseReadError (codes "link failed")) →
      FaultCountRose before after → Caused request reads limit before after answer
  -- some bytes have this answer; over a link that tells, `Exchanged` says that they are those left
  given : IsSome request → (rest : List ℕ) → answer ≡ answer_by reads (message_at rest limit) →
      Caused request reads limit before after answer
  no_memory : answer ≡ Err OutOfMemory → Caused request reads limit before after answer

-- ---- a request of KMIP's tables

-- what a client answers to it, as contracts see it: the value of a payload, or an error
abbrev pub Answer : Type 0
Answer = Result Val Error

-- and where the code holds the payload of any operation
abbrev pub answer_with_payload : Result ResponsePayload Error → Answer
answer_with_payload = seen_by response_payload_val

-- the tag of a response message (KMIP 1.0, 9.1.3.1)
abbrev pub response_tag : ℕ
response_tag = RESPONSE_MESSAGE

abbrev pub value_answer : Operation → Option Val → Answer
value_answer operation None = Err (InternalError (codes "not a response message"))
value_answer operation (Some message) = check_response operation message

abbrev pub tree_answer : Operation → Option Tree → Answer
tree_answer operation None = Err (DeserializeError (codes "malformed TTLV"))
tree_answer operation (Some tree) =
    value_answer operation (root_read response_message response_tag tree)

-- what a whole message answers a request of this operation
abbrev pub read_answer : Operation → List ℕ → Answer
read_answer operation m = tree_answer operation (item_of 64 m)

-- what stands at the front of the bytes left answers a request of this operation
abbrev pub answer_of : Operation → Message → Answer
answer_of operation here = answer_by (read_answer operation) here

abbrev pub Outcome : Type 0
Outcome = OutcomeOf Val

abbrev pub outcome_of : Option (List ℕ) → Operation → Option ℕ → List ℕ → Outcome
outcome_of request operation limit rest = outcome_by request (read_answer operation) limit rest

-- what an exchange of a payload comes to
abbrev pub outcome : RequestPayload → Option CredentialType → Option ℕ → List ℕ → Outcome
outcome payload credential limit rest =
    outcome_of (request_bytes payload credential) (operation_of payload) limit rest
