-- What bytes answer to a call.
use Rattle.std.proofs.Common.{◌≡◌, ◌≢◌, ℕ, ◌+◌, ◌<◌, ◌≤◌, List, length, take, refl, ◌∙◌, ap, arith, true, false, nat_lt, Option, Some, None, Result, Ok, Err, IsSome}
use Rattle.std.proofs.lemmas.Bool.Decides.{nat_tests}
use Rattle.std.proofs.lemmas.List.{length-take-le}
use Rattle.kmip_wire.specs.Heads.{head_says}
use Rattle.kmip_wire.specs.declared.error.HeadError.{HeadError}
use Rattle.kmip_enums.specs.declared.operation.Operation.{Operation}
use Rattle.kmip_types.specs.declared.auth.CredentialType.{CredentialType}
use Rattle.kmip_request.specs.Message.{request_bytes}
use Rattle.kmip_request.specs.declared.payload.RequestPayload.{RequestPayload}
use Rattle.kmip_client.specs.Message.{Message, message_at, taken_for}
use Rattle.kmip_client.specs.Outcome.{Answer, Gives, outcome_of, answer_of}
use Rattle.kmip_client.specs.declared.error.Error.{Error}
use Rattle.kmip_client.specs.declared.error.Error.TheVariants.{ConfigurationError, SerializeError, RequestWriteError, ResponseReadError, DeserializeError, ServerError, InternalError, ItemNotFound, Unknown, OutOfMemory}
use Rattle.kmip_client.proofs.Messages.{message_short, message_refused, message_cut, message_whole}
use Rattle.kmip_words.specs.Exchange.{Settings, Asked, IsRequestOf, request_asked, operation_asked, call_outcome}
use Rattle.kmip_words.specs.About.{line_with, answer_about, ending_about, outcome_line, outcome_ending, response_outcome, response_line, response_ending, IsReply}
use Rattle.kmip_words.specs.declared.call.Call.{Call}
use Rattle.kmip_words.specs.declared.call.Call.TheVariants.{Query, CreateRsa, Rng, Sign, Activate, Revoke, Destroy, Rename, Get, Raw, Request}

-- ---- what is sent is what the call asks for

-- the request of a call under the credential that its settings have
pub message_is : (payload : RequestPayload) (call : Call) (shown credential : Option CredentialType)
    → IsRequestOf payload call → shown ≡ credential →
    request_bytes payload shown ≡ (request_asked call credential).message
message_is payload call shown credential makes same =
    ap (λ (c : Option CredentialType). request_bytes payload c) same
    ∙ ap (λ (it : Asked). it.message) (makes credential)

-- ---- no more is taken than there is

head_within : (rest : List ℕ) (limit : Option ℕ) → 8 ≤ length rest → (h : Result ℕ HeadError)
    → head_says (take 8 rest) limit ≡ h → taken_for rest (message_at rest limit) ≤ length rest
head_within rest limit long (Err error) says =
    let taken : taken_for rest (message_at rest limit) ≡ 8 =
    ap (λ (m : Message). taken_for rest m) (message_refused rest limit error long says) in
    omega (arith, long)
head_within rest limit long (Ok n) says =
    elim (nat_lt (length rest) (n + 8)) as
    (λ b. nat_lt (length rest) (n + 8) ≡ b
    → taken_for rest (message_at rest limit) ≤ length rest) [
      | true ↦ λ e.
          let cut : length rest < n + 8 = grind (arith, nat_tests, e) in
          let taken : taken_for rest (message_at rest limit) ≡ length rest =
          ap (λ (m : Message). taken_for rest m) (message_cut rest limit n long says cut) in
          omega arith
      | false ↦ λ e.
          let all : n + 8 ≤ length rest = grind (arith, nat_tests, e) in
          let taken : taken_for rest (message_at rest limit) ≡ n + 8 =
          ap (λ (m : Message). taken_for rest m) (message_whole rest limit n long says all)
          ∙ length-take-le (n + 8) rest all in
          omega (arith, all)
    ] refl

pub taken_within : (rest : List ℕ) (limit : Option ℕ)
    → taken_for rest (message_at rest limit) ≤ length rest
taken_within rest limit = elim (nat_lt (length rest) 8) as
    (λ b. nat_lt (length rest) 8 ≡ b → taken_for rest (message_at rest limit) ≤ length rest) [
      | true ↦ λ e.
          let short : length rest < 8 = grind (arith, nat_tests, e) in
          let taken : taken_for rest (message_at rest limit) ≡ length rest =
          ap (λ (m : Message). taken_for rest m) (message_short rest limit short) in
          omega arith
      | false ↦ λ e.
          let long : 8 ≤ length rest = grind (arith, nat_tests, e) in
          head_within rest limit long (head_says (take 8 rest) limit) refl
    ] refl

pub part_within : (taken : ℕ) (rest : List ℕ) (limit : Option ℕ)
    → taken ≡ taken_for rest (message_at rest limit) → taken ≤ length rest
part_within taken rest limit is = omega (arith, is, taken_within rest limit)

-- ---- what was read is what the bytes answer

-- but for out of memory, what is answered is what should be
pub given_is : {A : Type 0} (due given : Result A Error) → Gives due given → given ≢ Err OutOfMemory
    → given ≡ due
given_is due (Ok payload) gives some = gives
given_is due (Err OutOfMemory) gives some = absurd (some refl)
given_is due (Err (ConfigurationError text)) gives some = gives
given_is due (Err (SerializeError text)) gives some = gives
given_is due (Err (RequestWriteError text)) gives some = gives
given_is due (Err (ResponseReadError text)) gives some = gives
given_is due (Err (DeserializeError text)) gives some = gives
given_is due (Err (ServerError text)) gives some = gives
given_is due (Err (InternalError text)) gives some = gives
given_is due (Err (ItemNotFound text)) gives some = gives
given_is due (Err (Unknown text)) gives some = gives

pub reply_is : (settings : Settings) (call : Call) (operation : Operation) (response : List ℕ)
    (answer : Answer) (taken : ℕ) → operation ≡ operation_asked call →
    Gives (answer_of operation (message_at response settings.limit)) answer →
    taken ≡ taken_for response (message_at response settings.limit) →
    IsReply answer (take taken response) (response_outcome settings call response) response
reply_is settings call operation response answer taken is gives count = λ some. (
  given_is (answer_of operation (message_at response settings.limit)) answer gives some
      ∙ ap (λ (o : Operation). answer_of o (message_at response settings.limit)) is,
  ap (λ (n : ℕ). take n response) count,
)

-- ---- it is what a client answers over a link that has these bytes to read

-- a call's operation does not depend on the credential
same_operation : (call : Call) (credential : Option CredentialType)
    → (request_asked call credential).operation ≡ operation_asked call
same_operation Query credential = refl
same_operation (CreateRsa key_length private_key_name public_key_name) credential = refl
same_operation (Rng num_bytes) credential = refl
same_operation (Sign id bytes) credential = refl
same_operation (Activate id) credential = refl
same_operation (Revoke id) credential = refl
same_operation (Destroy id) credential = refl
same_operation (Rename id new_name) credential = refl
same_operation (Get id) credential = refl
same_operation (Raw request) credential = refl
same_operation (Request payload) credential = refl

-- where a request was sent, the outcome is that of the bytes
sent_answer : (message : Option (List ℕ)) (operation : Operation) (limit : Option ℕ)
    (rest : List ℕ) → IsSome message →
    (outcome_of message operation limit rest).answer ≡ answer_of operation (message_at rest limit)
sent_answer None operation limit rest some = absurd (cc)
sent_answer (Some message) operation limit rest some = refl

sent_taken : (message : Option (List ℕ)) (operation : Operation) (limit : Option ℕ)
    (rest : List ℕ) → IsSome message →
    (outcome_of message operation limit rest).taken ≡ taken_for rest (message_at rest limit)
sent_taken None operation limit rest some = absurd (cc)
sent_taken (Some message) operation limit rest some = refl

answer_same : (settings : Settings) (call : Call) (rest : List ℕ) →
    IsSome (request_asked call settings.credential).message →
    (call_outcome settings call rest).answer ≡ (response_outcome settings call rest).answer
answer_same settings call rest some =
    sent_answer (request_asked call settings.credential).message
    (request_asked call settings.credential).operation settings.limit rest some
    ∙ ap (λ (o : Operation). answer_of o (message_at rest settings.limit))
    (same_operation call settings.credential)

taken_same : (settings : Settings) (call : Call) (rest : List ℕ) →
    IsSome (request_asked call settings.credential).message →
    (call_outcome settings call rest).taken ≡ (response_outcome settings call rest).taken
taken_same settings call rest some =
    sent_taken (request_asked call settings.credential).message
    (request_asked call settings.credential).operation settings.limit rest some

pub line_same : (settings : Settings) (call : Call) (rest : List ℕ) →
    IsSome (request_asked call settings.credential).message →
    outcome_line call (call_outcome settings call rest) rest ≡ response_line settings call rest
line_same settings call rest some =
    ap (λ (n : ℕ). line_with call
    (answer_about call (call_outcome settings call rest).answer (take n rest)) (take n rest))
    (taken_same settings call rest some)
    ∙ ap (λ (a : Answer). line_with call
    (answer_about call a (take (response_outcome settings call rest).taken rest))
    (take (response_outcome settings call rest).taken rest))
    (answer_same settings call rest some)

pub ending_same : (settings : Settings) (call : Call) (rest : List ℕ) →
    IsSome (request_asked call settings.credential).message →
    outcome_ending call (call_outcome settings call rest) rest ≡ response_ending settings call rest
ending_same settings call rest some =
    ap (λ (n : ℕ). ending_about call (call_outcome settings call rest).answer (take n rest))
    (taken_same settings call rest some)
    ∙ ap (λ (a : Answer). ending_about call a
    (take (response_outcome settings call rest).taken rest)) (answer_same settings call rest some)
