-- The lines of a call's diagnostics.
use Rattle.std.proofs.Common.{◌≡◌, ◌≢◌, ℕ, Bool, true, false, List, [], take, refl, ◌∙◌, ap, Option, Some, None, Ok, Err}
use Rattle.kmip_diag.specs.Diagnostic.{diagnostic, shown_within}
use Rattle.kmip_enums.specs.declared.operation.Operation.{Operation}
use Rattle.kmip_client.specs.declared.error.Error.TheVariants.{SerializeError, RequestWriteError, OutOfMemory}
use Rattle.kmip_client.specs.Message.{Message, message_at}
use Rattle.kmip_client.specs.Outcome.{Answer, outcome_of, answer_of}
use Rattle.kmip_client.specs.Diagnostics.{diagnostic_of, diagnostic_for, IsRequestText, IsResponseText, has_response}
use Rattle.kmip_client.proofs.MessageAnswers.{OfMessages, message_says}
use Rattle.kmip_words.specs.Exchange.{diagnostic_lines}

-- what a message answers shows that it was read

shows_reading : OfMessages (λ answer. has_response answer ≡ true)
shows_reading = record {
  ok = λ payload. refl;
  malformed = λ text. refl;
  internal = λ text. refl;
  server = λ text. refl;
  not_found = λ text. refl;
}

message_read : (operation : Operation) (here : Message) → has_response (answer_of operation here) ≡ true
message_read operation Message.Ended = refl
message_read operation (Message.Refused error) = refl
message_read operation (Message.Whole m) = message_says shows_reading operation m

-- the texts that a client keeps after an answer that is not out of memory

request_kept : (buffered : Bool) (request : Option (List ℕ)) (answer : Answer)
    (text : Option (List ℕ)) → answer ≢ Err OutOfMemory → IsRequestText buffered request answer text
    → text ≡ diagnostic_of buffered request
request_kept buffered request (Ok payload) text some is = is
request_kept buffered request (Err OutOfMemory) text some is = absurd (some refl)
request_kept buffered request (Err error) text some is = is

response_kept : (buffered : Bool) (taken : List ℕ) (answer : Answer) (text : Option (List ℕ))
    → has_response answer ≡ true → IsResponseText buffered taken answer text
    → text ≡ diagnostic_for buffered taken
response_kept buffered taken (Ok payload) text read is = is
response_kept buffered taken (Err OutOfMemory) text read is = cc
response_kept buffered taken (Err (SerializeError reason)) text read is = cc
response_kept buffered taken (Err (RequestWriteError reason)) text read is = cc
response_kept buffered taken (Err error) text read is = is

response_none : (buffered : Bool) (taken reason : List ℕ) (answer : Answer) (text : Option (List ℕ))
    → answer ≡ Err (SerializeError reason) → IsResponseText buffered taken answer text → text ≡ None
response_none buffered taken reason answer text was is = rw was at is

no_diagnostic : diagnostic (Some 0x4200) [] ≡ []
unfolding diagnostic shown_within
no_diagnostic = refl

-- they are the diagnostics of what was sent and taken
pub told_of : (buffered : Bool) (request : Option (List ℕ)) (operation : Operation)
    (limit : Option ℕ) (rest : List ℕ) (n : ℕ) (answer : Answer)
    (sent_text taken_text : Option (List ℕ)) →
    answer ≡ (outcome_of request operation limit rest).answer → answer ≢ Err OutOfMemory
    → n ≡ (outcome_of request operation limit rest).taken →
    IsRequestText buffered request answer sent_text → IsResponseText buffered (take n rest) answer taken_text →
    diagnostic_lines buffered sent_text taken_text
    ≡ diagnostic_lines buffered (Some (diagnostic (Some 0x4200)
    (outcome_of request operation limit rest).sent))
    (Some (diagnostic (Some 0x4200)
    (take (outcome_of request operation limit rest).taken rest)))
told_of false request operation limit rest n answer sent_text taken_text was some count sent_is taken_is = refl
told_of true None operation limit rest n answer sent_text taken_text was some count sent_is taken_is =
    let sent : sent_text ≡ None = request_kept true None answer sent_text some sent_is in
    let taken : taken_text ≡ None = response_none true (take n rest) _ answer taken_text was taken_is in
    rw (sent, taken, no_diagnostic) refl
told_of true (Some bytes) operation limit rest n answer sent_text taken_text was some count sent_is taken_is =
    let sent : sent_text ≡ Some (diagnostic (Some 0x4200) bytes) =
    request_kept true (Some bytes) answer sent_text some sent_is in
    let read : has_response answer ≡ true = ap has_response was ∙ message_read operation (message_at rest limit) in
    let taken : taken_text ≡ Some (diagnostic (Some 0x4200) (take n rest)) =
    response_kept true (take n rest) answer taken_text read taken_is in
    rw (sent, taken, count) refl
