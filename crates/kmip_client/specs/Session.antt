-- Several requests over one client.
use Rattle.std.specs.Prelude.{◌≡◌, ℕ, ◌+◌, ◌<◌, ◌≤◌, List, [], ◌∷◌, ◌++◌, length, take, drop, map}
use Rattle.std.specs.Prelude.{Bool, true, false, Option, None, if◌then◌else◌, Err, IsTrue}
use Rattle.std.specs.Prelude.{codes}
use Rattle.kmip_shape.specs.Val.{Val}
use Rattle.kmip_types.specs.declared.auth.CredentialType.{CredentialType}
use Rattle.kmip_request.specs.Message.{request_bytes}
use Rattle.kmip_request.specs.declared.payload.RequestPayload.{RequestPayload}
use Rattle.kmip_link.specs.State.{LinkState, FaultCountRose, Keeps, left}
use Rattle.kmip_client.specs.declared.error.Error.TheVariants.{SerializeError}
use Rattle.kmip_client.specs.declared.error.Error.TheVariants.{RequestWriteError, ResponseReadError}
use Rattle.kmip_client.specs.declared.session.Exchange.{Exchange}
use Rattle.kmip_client.specs.Outcome.{Answer, seen_by, Outcome, outcome, Moves, FailsReading, FailsWriting}
use Rattle.kmip_client.specs.Outcome.{reading_failed, writing_failed}
use Rattle.kmip_client.specs.Client.{ClientState, loses_connection, lacks_memory, count_after}
use Rattle.kmip_client.specs.Calls.{IsCall}
use Rattle.kmip_client.specs.Diagnostics.{diagnostic_for, diagnostic_of}

-- one request of a session
pub record Turn : Type 0 where
  -- its canonical bytes
  pub request : Option (List ℕ)
  -- the bytes left before it
  pub rest : List ℕ
  -- what it comes to
  pub outcome : Outcome

abbrev pub turn_of : RequestPayload → Option CredentialType → Option ℕ → List ℕ → Turn
turn_of payload credential limit rest = record {
  request = request_bytes payload credential;
  rest = rest;
  outcome = outcome payload credential limit rest;
}

-- a turn, and the later ones where its answer keeps the connection
abbrev pub then_on : Turn → List Turn → List Turn
then_on turn later = if loses_connection turn.outcome.answer then turn ∷ [] else turn ∷ later

-- The turns of these requests on these bytes, each on what the one before it left.
unfoldable pub session : List RequestPayload → Option CredentialType → Option ℕ → List ℕ → List Turn
session [] credential limit rest = []
session (payload ∷ payloads) credential limit rest =
    then_on (turn_of payload credential limit rest)
    (session payloads credential limit (drop (outcome payload credential limit rest).taken rest))

-- an exchange, as contracts see it
pub record CallReport : Type 0 where
  pub answer : Answer
  pub request_text : Option (List ℕ)
  pub response_text : Option (List ℕ)

-- an exchange of the code, by the value of its payload
abbrev pub exchange_report : {P : Type 0} → (P → Val) → Exchange P → CallReport
exchange_report val exchange = record {
  answer = seen_by val exchange.answer;
  request_text = exchange.req_diag;
  response_text = exchange.res_diag;
}

-- the diagnostic of the bytes that were taken, and none where the request was not sent
abbrev pub response_text_of : Bool → List ℕ → Answer → Option (List ℕ)
response_text_of buffered taken (Err (SerializeError reason)) = None
response_text_of buffered taken (Err (RequestWriteError reason)) = None
response_text_of buffered taken answer = diagnostic_for buffered taken

-- the report of a request of these bytes that was answered so, after these bytes were taken
abbrev pub call_report : Bool → Option (List ℕ) → Answer → List ℕ → CallReport
call_report buffered request answer taken = record {
  answer = answer;
  request_text = diagnostic_of buffered request;
  response_text = response_text_of buffered taken answer;
}

abbrev pub turn_report : Bool → Turn → CallReport
turn_report buffered turn =
    call_report buffered turn.request turn.outcome.answer (take turn.outcome.taken turn.rest)

abbrev pub all_sent : List Turn → List ℕ
all_sent [] = []
all_sent (turn ∷ turns) = turn.outcome.sent ++ all_sent turns

abbrev pub all_taken : List Turn → ℕ
all_taken [] = 0
all_taken (turn ∷ turns) = turn.outcome.taken + all_taken turns

-- what a failing link left done of an outcome: the answer, the bytes sent, and how many were taken
pub data BrokenOff (o : Outcome) : Answer → List ℕ → ℕ → Type 0 where
  writing : (n : ℕ) → n < length o.sent →
      BrokenOff o (Err (RequestWriteError (codes "link failed"))) (take n o.sent) 0
  reading : (n : ℕ) → n ≤ o.taken →
      BrokenOff o (Err (ResponseReadError (codes "link failed"))) o.sent n

-- A session broke off at the call of this turn: that call found the link as `between`, after all
-- that the turns before it sent and took, sent and took these itself, and in it the count of faults
-- rose.
pub record BreaksIn {T : Type 0} (state : T → LinkState) (done : List Turn) (turn : Turn)
    (last : Answer) (sent : List ℕ) (taken : ℕ) (before after : T) : Type 0 where
  pub between : T
  pub keeps : Keeps (state before) (state between)
  pub moves : Moves (state before) (state between) (all_sent done) (all_taken done)
  pub later : Keeps (state between) (state after)
  pub last_moves : Moves (state between) (state after) sent taken
  pub rose : FaultCountRose (state between).faults (state after).faults
  pub writing : last ≡ writing_failed → FailsWriting state turn.request between after
  pub reading : last ≡ reading_failed →
      FailsReading state turn.request turn.outcome.taken between after

-- How a session of these turns went, and what it reported.
pub data Ran {T : Type 0} (state : T → LinkState) (buffered : Bool) (turns : List Turn)
    (before after : T) (exchanges : List CallReport) : Type 0 where
  whole : exchanges ≡ map (turn_report buffered) turns →
      Moves (state before) (state after) (all_sent turns) (all_taken turns) →
      Ran state buffered turns before after exchanges
  -- the link failed after some of them
  broken : (done : List Turn) (turn : Turn) (more : List Turn) (last : Answer) (sent : List ℕ)
      (taken : ℕ) → turns ≡ done ++ turn ∷ more →
      exchanges ≡ map (turn_report buffered) done ++
      call_report buffered turn.request last (take taken turn.rest) ∷ [] →
      BrokenOff turn.outcome last sent taken →
      FaultCountRose (state before).faults (state after).faults →
      Moves (state before) (state after) (all_sent done ++ sent) (all_taken done + taken) →
      BreaksIn state done turn last sent taken before after →
      Ran state buffered turns before after exchanges

-- after this answer the next request's call is made
abbrev pub GoesOn : Answer → Type 0
GoesOn answer = (loses_connection answer ≡ false) × (lacks_memory answer ≡ false)

-- Over any link: there is one exchange for each request, up to the first that lost the connection,
-- and none that lacked memory.
pub data Stops : List RequestPayload → List CallReport → Type 0 where
  at_end : Stops [] []
  at_loss : (payload : RequestPayload) (payloads : List RequestPayload) (exchange : CallReport) →
      loses_connection exchange.answer ≡ true → Stops (payload ∷ payloads) (exchange ∷ [])
  later : (payload : RequestPayload) (payloads : List RequestPayload) (exchange : CallReport)
      (exchanges : List CallReport) → GoesOn exchange.answer → Stops payloads exchanges →
      Stops (payload ∷ payloads) (exchange ∷ exchanges)

-- the report of a call that was answered so and left the client so
abbrev pub client_report : {T : Type 0} → Answer → ClientState T → CallReport
client_report answer client = record {
  answer = answer;
  request_text = client.request_text;
  response_text = client.response_text;
}

-- Over any link: each exchange is the report of a call of `do_request`, for the requests in order,
-- each call made on the client that the one before left.
abbrev pub Calls : {T : Type 0} → (T → LinkState) → List RequestPayload → ClientState T →
    List CallReport → ClientState T → Type 0
Calls state payloads before [] after = after ≡ before
Calls state [] before (exchange ∷ exchanges) after = ⊥
Calls {T} state (payload ∷ payloads) before (exchange ∷ exchanges) after =
    (between : ClientState T) × IsCall state payload before between exchange.answer ×
    (exchange ≡ client_report exchange.answer between) ×
    Calls state payloads between exchanges after

-- each but the last answer let the session go on
abbrev pub GoOn : List CallReport → Type 0
GoOn [] = Unit {0}
GoOn (exchange ∷ []) = Unit {0}
GoOn (exchange ∷ next ∷ exchanges) = GoesOn exchange.answer × GoOn (next ∷ exchanges)

-- Calls were made for the first of the requests, up to one whose answer is lost, since memory ran
-- out.
pub record CutOff {T : Type 0} (state : T → LinkState) (payloads : List RequestPayload)
    (before after : ClientState T) : Type 0 where
  pub exchanges : List CallReport
  pub made : Calls state payloads before exchanges after
  pub on : GoOn exchanges

abbrev pub Texts : Type 0
Texts = Option (List ℕ) × Option (List ℕ)

-- the diagnostics that a client holds
abbrev pub held_texts : {T : Type 0} → ClientState T → Texts
held_texts client = (client.request_text, client.response_text)

-- those of the last exchange, and these where there is none
abbrev pub last_texts : Texts → List CallReport → Texts
last_texts texts [] = texts
last_texts texts (exchange ∷ exchanges) =
    last_texts (exchange.request_text, exchange.response_text) exchanges

-- Over any link: each exchange has the diagnostic of its request.
abbrev pub AreRequestTexts : Bool → Option CredentialType → List RequestPayload → List CallReport →
    Type 0
AreRequestTexts buffered credential payloads [] = Unit {0}
AreRequestTexts buffered credential [] (exchange ∷ exchanges) = ⊥
AreRequestTexts buffered credential (payload ∷ payloads) (exchange ∷ exchanges) =
    (exchange.request_text ≡ diagnostic_of buffered (request_bytes payload credential)) ×
    AreRequestTexts buffered credential payloads exchanges

-- whether the last answer is a connection error
abbrev pub ends_lost : List CallReport → Bool
ends_lost [] = false
ends_lost (exchange ∷ []) = loses_connection exchange.answer
ends_lost (exchange ∷ next ∷ exchanges) = ends_lost (next ∷ exchanges)

-- What `exchange_all` promises of a session for these requests, which found the client as `before`,
-- left it as `after` and returned these exchanges. `state` is what the link means.
pub record IsSession {T : Type 0} (state : T → LinkState) (payloads : List RequestPayload)
    (before after : ClientState T) (exchanges : List CallReport) : Type 0 where
  -- what was sent, taken and reported, over a link whose bytes are known and that got none
  -- meanwhile
  pub ran : IsTrue (state before.link).tells → (state after.link).ever ≡ (state before.link).ever →
      Ran state before.buffered
      (session payloads before.credential before.limit (left (state before.link)))
      before.link after.link exchanges
  -- there is one exchange for each request, up to the first that lost the connection
  pub stops : Stops payloads exchanges
  -- each exchange is the report of a call of `do_request`, made on the client that the call before
  -- left
  pub calls : Calls state payloads before exchanges after
  -- the client holds the diagnostics of the last exchange, and with none those that it held
  pub texts : held_texts after ≡ last_texts (held_texts before) exchanges
  -- each exchange has the diagnostic of its request
  pub requests : AreRequestTexts before.buffered before.credential payloads exchanges
  -- one more connection error was counted, modulo 256, exactly if the last answer is one
  pub count : after.errors ≡ count_after before.errors (ends_lost exchanges)
