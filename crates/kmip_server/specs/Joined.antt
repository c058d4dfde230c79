-- What each call of a client over a server comes to.
use Rattle.std.specs.Prelude.{◌≡◌, ℕ, ℤ, ◌<◌, Bool, true, false, List, [], ◌∷◌, ◌++◌, length, take, drop, Option, Some, None, if◌then◌else◌, Ok, Err, codes}
use Rattle.kmip_shape.specs.Val.{Val, Record, Case, NoField}
use Rattle.kmip_request.specs.Message.{request_bytes, operation_of}
use Rattle.kmip_request_read.specs.Reading.{request_read, request_for}
use Rattle.kmip_response_write.specs.Settled.{response_bytes, IsHeld as IsHeldResponse}
use Rattle.kmip_types.specs.declared.auth.CredentialType.{CredentialType}
use Rattle.kmip_client.specs.Outcome.{Answer, outcome_of}
use Rattle.kmip_client.specs.Client.{loses_connection}
use Rattle.kmip_client.specs.Session.{Turn, call_report}
use Rattle.kmip_client.specs.Diagnostics.{diagnostic_of}
use Rattle.kmip_client.specs.declared.error.Error.TheVariants.{RequestWriteError}
use Rattle.kmip_store.specs.declared.call.Call.{Call}
use Rattle.kmip_store.specs.declared.call.Call.TheVariants.{CreateRsaKeyPair, ActivateKey, RevokeKey, DestroyKey}
use Rattle.kmip_store.specs.declared.object.Object.{Object}
use Rattle.kmip_store.specs.declared.maker.Asked.{Asked}
use Rattle.kmip_store.specs.declared.maker.Made.{Made}
use Rattle.std.specs.Option.{option_to_list}
use Rattle.kmip_server_core.specs.Served.{served, asks}
use Rattle.kmip_server_core.specs.Requests.{request_of}
use Rattle.kmip_server.specs.Machine.{first_for, rest_for}

-- the settings of a client, and the time stamp of its server
pub record CallSettings : Type 0 where
  pub credential : Option CredentialType
  pub limit : Option ℕ
  pub buffered : Bool
  pub time : ℤ

-- a server and its client between two calls: the objects, the maker's answers to come, its
-- questions so far, and the bytes left to read
pub record Between : Type 0 where
  pub objects : List Object
  pub given : List Made
  -- what the maker was asked so far
  pub asked : List Asked
  pub rest : List ℕ

-- the value of a helper that returns `()`
abbrev pub no_val : Val
no_val = Record NoField

-- the value in a case
abbrev pub inside : Val → Val
inside (Case n val) = val
inside val = val

-- what a helper returns of a payload: both identifiers of a pair, `()`, or the payload
abbrev pub part_for : Call → Val → Val
part_for (CreateRsaKeyPair bits private public) val = inside val
part_for (ActivateKey id) val = no_val
part_for (RevokeKey id) val = no_val
part_for (DestroyKey id) val = no_val
part_for call val = val

abbrev pub helper_answer : Call → Answer → Answer
helper_answer call (Ok val) = Ok (part_for call val)
helper_answer call (Err error) = Err error

-- the report of a call: what it sent, its answer, and its diagnostics
pub record JoinedReport : Type 0 where
  pub sent : List ℕ
  pub answer : Answer
  pub request_text : Option (List ℕ)
  pub response_text : Option (List ℕ)

abbrev pub joined_report : CallSettings → Call → Turn → JoinedReport
joined_report settings call turn =
    let texts = call_report settings.buffered turn.request turn.outcome.answer
    (take turn.outcome.taken turn.rest) in
    record {
      sent = turn.outcome.sent;
      answer = helper_answer call turn.outcome.answer;
      request_text = texts.request_text;
      response_text = texts.response_text;
    }

-- what is to come of a call
pub data Expected : Type 0 where
  -- it is reported so
  Reported : JoinedReport → Expected
  -- the response has no wire form, so the request, of these bytes, is not sent whole
  Unsent : List ℕ → Expected

pub record Next : Type 0 where
  pub expected : Expected
  -- whether it was the last call
  pub stops : Bool
  pub after : Between

-- the turn of a call whose request has these bytes, if it is valid, over these bytes left to read
abbrev pub turn_with : CallSettings → Call → Option (List ℕ) → List ℕ → Turn
turn_with settings call request rest =
    record {
      request = request;
      rest = rest;
      outcome = outcome_of request (operation_of (request_of call)) settings.limit rest;
    }

abbrev pub next_with : CallSettings → Call → Turn → Between → Next
next_with settings call turn after = record {
  expected = Reported (joined_report settings call turn);
  stops = loses_connection turn.outcome.answer;
  after = record after { rest = drop turn.outcome.taken turn.rest };
}

-- where the response has no wire form, the objects stay
abbrev pub answered_with : CallSettings → Call → Between → Between → List ℕ → Option (List ℕ) → Next
answered_with settings call now after request None =
    record {
      expected = Unsent request;
      stops = true;
      after = record after { objects = now.objects };
    }
answered_with settings call now after request (Some response) =
    next_with settings call (turn_with settings call (Some request) (after.rest ++ response)) after

abbrev pub sent_with : CallSettings → Call → Between → Option (List ℕ) → Next
sent_with settings call now None =
    next_with settings call (turn_with settings call None now.rest) now
sent_with settings call now (Some request) =
    let q = asks now.objects request in
    let s = served now.objects request (first_for q now.given) settings.time in
    answered_with settings call now
    (record {
      objects = s.objects;
      given = rest_for q now.given;
      asked = now.asked ++ option_to_list q;
      rest = now.rest;
    }) request
    (response_bytes s.message)

-- one call: where its request is valid the response to it is added to the bytes left, and the
-- outcome of the call is that over these bytes
unfoldable pub next : CallSettings → Between → Call → Next
next settings now call =
    sent_with settings call now (request_bytes (request_of call) settings.credential)

-- the calls in order, none after a lost connection
unfoldable pub expected_calls : CallSettings → Between → List Call → List Expected
expected_calls settings now [] = []
expected_calls settings now (call ∷ calls) = (next settings now call).expected ∷
    (if (next settings now call).stops then []
    else expected_calls settings (next settings now call).after calls)

-- server and client after the last of the calls that are made
unfoldable pub finish : CallSettings → Between → List Call → Between
finish settings now [] = now
finish settings now (call ∷ calls) =
    if (next settings now call).stops then (next settings now call).after
    else finish settings (next settings now call).after calls

-- whether the response to one of the calls has no wire form
abbrev pub has_unsent : List Expected → Bool
has_unsent [] = false
has_unsent (Unsent request ∷ es) = true
has_unsent (Reported report ∷ es) = has_unsent es

-- The bytes of a call's request, where it is valid, are read as that request.
abbrev pub IsReadBack : Call → Option CredentialType → Type 0
IsReadBack call credential = (request : List ℕ) →
    request_bytes (request_of call) credential ≡ Some request →
    request_read request ≡ Some (request_for (request_of call))

-- The request is read back, and the response to it, where it has a wire form, is a message that
-- Rust can hold.
pub record IsHeldNext (settings : CallSettings) (now : Between) (call : Call) : Type 0 where
  pub reads : IsReadBack call settings.credential
  pub holds : (request response : List ℕ) →
      request_bytes (request_of call) settings.credential ≡ Some request →
      response_bytes (served now.objects request (first_for (asks now.objects request) now.given)
      settings.time).message ≡ Some response →
      IsHeldResponse (served now.objects request (first_for (asks now.objects request) now.given)
      settings.time).message

abbrev pub Unless : Bool → Type 0 → Type 0
Unless true P = Unit {0}
Unless false P = P

-- so it is for each of the calls that are made
unfoldable pub AreHeldNext : CallSettings → Between → List Call → Type 0
AreHeldNext settings now [] = Unit {0}
AreHeldNext settings now (call ∷ calls) =
    IsHeldNext settings now call ×
    Unless (next settings now call).stops
    (AreHeldNext settings (next settings now call).after calls)

-- a call that the link cut short: a proper part of the request was sent
pub record IsUnsent (settings : CallSettings) (request : List ℕ)
    (report : JoinedReport) : Type 0 where
  pub n : ℕ
  pub part : n < length request
  pub sent : report.sent ≡ take n request
  pub answer : report.answer ≡ Err (RequestWriteError (codes "link failed"))
  pub request_text : report.request_text ≡ diagnostic_of settings.buffered (Some request)
  pub response_text : report.response_text ≡ None

abbrev pub ReportMatches : CallSettings → Expected → JoinedReport → Type 0
ReportMatches settings (Reported report) report' = report' ≡ report
ReportMatches settings (Unsent request) report' = IsUnsent settings request report'

-- The calls were reported as expected, one for one.
abbrev pub ReportsMatch : CallSettings → List Expected → List JoinedReport → Type 0
ReportsMatch settings [] [] = Unit {0}
ReportsMatch settings (e ∷ es) (x ∷ xs) = ReportMatches settings e x × ReportsMatch settings es xs
ReportsMatch settings es xs = ⊥

-- whether the last answer is a connection error
abbrev pub last_is_lost : List JoinedReport → Bool
last_is_lost [] = false
last_is_lost (x ∷ []) = loses_connection x.answer
last_is_lost (x ∷ y ∷ xs) = last_is_lost (y ∷ xs)
