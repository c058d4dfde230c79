-- One call of a client as a whole, and a helper that makes one.
use Rattle.std.specs.Prelude.{◌≡◌, ◌-◌, ℕ, List, take, false, Option, None, Result, Ok, Err, IsTrue}
use Rattle.kmip_shape.specs.Val.{Val}
use Rattle.kmip_link.specs.State.{LinkState, Keeps}
use Rattle.kmip_enums.specs.declared.operation.Operation.{Operation}
use Rattle.kmip_types.specs.declared.auth.CredentialType.{CredentialType}
use Rattle.kmip_request.specs.Message.{request_bytes, operation_of}
use Rattle.kmip_request.specs.declared.payload.RequestPayload.{RequestPayload}
use Rattle.kmip_response.specs.Values.{response_payload_val}
use Rattle.kmip_response.specs.declared.payload.ResponsePayload.{ResponsePayload}
use Rattle.kmip_response.specs.declared.payloads.identifiers.CreateKeyPairResponsePayload.{CreateKeyPairResponsePayload}
use Rattle.kmip_client.specs.declared.error.Error.{Error}
use Rattle.kmip_client.specs.declared.error.Error.TheVariants.{OutOfMemory}
use Rattle.kmip_client.specs.Outcome.{Answer, seen_by, Exchanged, Caused, FailsReading, FailsWriting}
use Rattle.kmip_client.specs.Outcome.{reading_failed, writing_failed, OutcomeOf, outcome_by, left_for, read_answer}
use Rattle.kmip_client.specs.Headline.{Headline, IsValidResponse}
use Rattle.kmip_client.specs.Client.{ClientState, loses_connection, count_after}
use Rattle.kmip_client.specs.Diagnostics.{IsRequestText, IsResponseText}

-- How calls of one kind are written and read. Their requests are of type R, and their payloads are
-- seen as of type A.
pub record CallKind (R A : Type 0) : Type 1 where
  -- the canonical bytes of a request under a credential, where it has any
  pub bytes_of : R → Option CredentialType → Option (List ℕ)
  -- what a whole message answers to a request
  pub reads : R → List ℕ → Result A Error
  -- under a limit on its length, the front of these bytes left is this message, which answers a
  -- request with this payload
  pub IsValid : R → Option ℕ → List ℕ → List ℕ → A → Type 0

-- what a call should come to that found the client and left its link so
abbrev pub outcome_for : {T R A : Type 0} → CallKind R A → (T → LinkState) → R → ClientState T →
    T → OutcomeOf A
outcome_for kind state request before after =
    outcome_by (kind.bytes_of request before.credential) (kind.reads request) before.limit
    (left_for (state before.link) (state after))

-- What a call promises for this request, which found the client as `before`, left it as `after` and
-- answered so. `state` is what the link means to contracts. Some fields hold where the link
-- `tells`: where its bytes are known to contracts. The others hold over any link.
pub record IsCallOf {T R A : Type 0} (kind : CallKind R A) (state : T → LinkState) (request : R)
    (before after : ClientState T) (answer : Result A Error) : Type 0 where
  -- outcome: what was answered, sent and taken, as it should be or broken off
  pub exchange : IsTrue (state before.link).tells →
      Exchanged (outcome_for kind state request before after.link)
      (state before.link) (state after.link) answer
  -- cause: why it answered so
  pub caused : Caused (kind.bytes_of request before.credential) (kind.reads request) before.limit
      (state before.link).faults (state after.link).faults answer
  -- failing write: the link took a proper part of the request and then failed, where the answer says
  -- so
  pub writing : IsTrue (state before.link).tells → answer ≡ writing_failed →
      FailsWriting state (kind.bytes_of request before.credential) before.link after.link
  -- failing read: the link failed after it took the whole request, where the answer says so
  pub reading : IsTrue (state before.link).tells → answer ≡ reading_failed →
      FailsReading state (kind.bytes_of request before.credential)
      (outcome_for kind state request before after.link).taken before.link after.link
  -- headline: failures aside, a valid request is sent, and Ok is answered just to a valid response
  pub headline : IsTrue (state before.link).tells →
      Headline (kind.bytes_of request before.credential) (kind.IsValid request before.limit)
      (state before.link) (state after.link) answer
  -- link kept: what no call of a link changes, and a count of faults that did not fall
  pub keeps : Keeps (state before.link) (state after.link)
  -- settings: the credential is the one before
  pub credential : after.credential ≡ before.credential
  -- settings: the limit on a response is the one before
  pub limit : after.limit ≡ before.limit
  -- settings: diagnostics are kept exactly if they were before
  pub buffered : after.buffered ≡ before.buffered
  -- count: one more connection error, modulo 256, exactly if the answer is one
  pub count : after.errors ≡ count_after before.errors (loses_connection answer)
  -- texts: the request's is its diagnostic; none, or that, after memory ran out
  pub request_text : IsRequestText before.buffered (kind.bytes_of request before.credential) answer
      after.request_text
  -- texts: the response's is that of the bytes taken, and none if the request was not sent
  pub response_text : IsTrue (state before.link).tells →
      IsResponseText before.buffered
      (take ((state after.link).pos - (state before.link).pos)
      (left_for (state before.link) (state after.link)))
      answer after.response_text
  -- texts: of a response there is none if no diagnostics are kept
  pub quiet : before.buffered ≡ false → after.response_text ≡ None

-- the calls whose requests and responses are of KMIP's tables
abbrev pub typed_calls : CallKind RequestPayload Val
typed_calls = record {
  bytes_of = request_bytes;
  reads = λ payload. read_answer (operation_of payload);
  IsValid = λ payload. IsValidResponse (operation_of payload);
}

-- what `do_request` promises of a call for this request
abbrev pub IsCall : {T : Type 0} → (T → LinkState) → RequestPayload → ClientState T →
    ClientState T → Answer → Type 0
IsCall state payload before after answer = IsCallOf typed_calls state payload before after answer

-- a part of the payload, errors passed on
abbrev pub part_of : {P R : Type 0} → (P → R) → Result P Error → Result R Error
part_of part (Ok payload) = Ok (part payload)
part_of part (Err error) = Err error

-- What a helper did that makes this request: its result is a part of what `do_request` answered,
-- whose payload is of this variant.
pub data Helped {T P R : Type 0} (state : T → LinkState) (request : RequestPayload)
    (variant : P → ResponsePayload) (part : P → R) (before after : ClientState T)
    (result : Result R Error) : Type 0 where
  called : (answer : Result P Error) →
      IsCall state request before after
      (seen_by (λ payload. response_payload_val (variant payload)) answer) →
      result ≡ part_of part answer → Helped state request variant part before after result
  -- memory ran out before the request was made, and nothing changed
  not_made : result ≡ Err OutOfMemory → after ≡ before →
      Helped state request variant part before after result

-- the same, where the request is one that was to be made
pub data Asked {T P E : Type 0} (state : T → LinkState) (request : Result RequestPayload E)
    (val : Operation → P → Val) (before after : ClientState T)
    (answer : Result P Error) : Type 0 where
  asked : (payload : RequestPayload) → request ≡ Ok payload →
      IsCall state payload before after (seen_by (val (operation_of payload)) answer) →
      Asked state request val before after answer
  not_asked : answer ≡ Err OutOfMemory → after ≡ before →
      Asked state request val before after answer

-- a payload of no interest
abbrev pub nothing_of : {P : Type 0} → P → Unit {0}
nothing_of payload = tt

-- the identifiers of a pair: the private key's, then the public key's
abbrev pub identifiers_of : CreateKeyPairResponsePayload → List ℕ × List ℕ
identifiers_of payload =
    (payload.private_key_unique_identifier.0, payload.public_key_unique_identifier.0)
