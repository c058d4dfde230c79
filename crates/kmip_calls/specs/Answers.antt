-- What a call sends, and what a response answers to it.
use Rattle.std.specs.Prelude.{ℕ, List, Option}
use Rattle.kmip_types.specs.declared.auth.CredentialType.{CredentialType}
use Rattle.kmip_client.specs.Operation.{operation_bytes}
use Rattle.kmip_operations.specs.Answers.{operation_json_line, operation_ending}
use Rattle.kmip_operations.specs.AnyPayload.{call_line, call_ending}
use Rattle.kmip_plain.specs.declared.payload.PayloadForm.TheVariants.{Plain}
use Rattle.kmip_words.specs.Exchange.{Settings}
use Rattle.kmip_words.specs.Exchange as typed_calls
use Rattle.kmip_words.specs.declared.ending.Ending.{Ending}
use Rattle.kmip_calls.specs.Calls.{Asked, typed, operation}

-- the one canonical message of a call, where it has one
abbrev pub request_asked : Asked → Option CredentialType → Option (List ℕ)
request_asked (typed call) credential = (typed_calls.request_asked call credential).message
request_asked (operation request) credential = operation_bytes request credential

-- the line of JSON that says what these bytes answer to a call whose request was sent
abbrev pub line_of : Settings → Asked → List ℕ → List ℕ
line_of settings (typed call) response = call_line settings call response
line_of settings (operation request) response =
    operation_json_line Plain settings request response

-- how the call ended
abbrev pub ending_of : Settings → Asked → List ℕ → Ending
ending_of settings (typed call) response = call_ending settings call response
ending_of settings (operation request) response = operation_ending settings request response
