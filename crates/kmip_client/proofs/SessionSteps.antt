-- A session on its way: the calls that were made, and the requests that are left.
use Rattle.std.proofs.Common.{◌≡◌, ℕ, List, [], ◌∷◌, ◌++◌, refl, ◌∙◌, ap, sym, IsTrue, Bool, true, false}
use Rattle.kmip_request.specs.declared.payload.RequestPayload.{RequestPayload}
use Rattle.kmip_link.specs.State.{LinkState, left, Keeps}
use Rattle.kmip_client.specs.Transfer.{Grows}
use Rattle.kmip_client.specs.Outcome.{Answer}
use Rattle.kmip_client.specs.Client.{ClientState, loses_connection, lacks_memory, count_after}
use Rattle.kmip_client.specs.Calls.{IsCall}
use Rattle.kmip_client.specs.Session.{session, CallReport, GoesOn, at_loss, client_report, Calls, CutOff, ends_lost, IsSession}
use Rattle.kmip_client.proofs.Transfers.{keeps_self, keeps_on}
use Rattle.kmip_client.proofs.Sessions.{SoFar, StopsOn, Step, turn, stop, end, step_of, nothing_yet, grows_none, grows_on, same_before, exchanged_grows, stops_on, stops_end, CallsOn, calls_on, calls_end, calls_texts, calls_requests, AllGoOn, all_one, have_room, room_one, cut_off, ends_one}

-- These exchanges were made of the first of the requests, the client stands as `now`, and the rest is to come.
pub record Going {T : Type 0} (state : T → LinkState) (payloads : List RequestPayload) (start now : ClientState T)
    (exchanges : List CallReport) (rest : List RequestPayload) : Type 0 where
  pub keeps : Keeps (state start.link) (state now.link)
  pub credential : now.credential ≡ start.credential
  pub limit : now.limit ≡ start.limit
  pub buffered : now.buffered ≡ start.buffered
  pub errors : now.errors ≡ start.errors
  pub connected : ends_lost exchanges ≡ false
  pub grows : IsTrue (state start.link).tells → Grows (state start.link) (state now.link)
  pub so_far : IsTrue (state start.link).tells → (state now.link).ever ≡ (state start.link).ever →
      SoFar start.buffered (session payloads start.credential start.limit (left (state start.link)))
      (state start.link) (state now.link) exchanges
      (session rest start.credential start.limit (left (state now.link)))
  pub stops : StopsOn payloads exchanges rest
  pub calls : CallsOn state payloads start exchanges now rest
  pub all : AllGoOn exchanges

pub going_none : {T : Type 0} (state : T → LinkState) (payloads : List RequestPayload)
    (start : ClientState T) → Going state payloads start start [] payloads
going_none state payloads start = record {
  keeps = keeps_self (state start.link);
  credential = refl;
  limit = refl;
  buffered = refl;
  errors = refl;
  connected = refl;
  grows = λ tells. grows_none (state start.link);
  so_far = λ tells same. nothing_yet start.buffered
      (session payloads start.credential start.limit (left (state start.link))) (state start.link);
  stops = λ more stops. stops;
  calls = λ after more calls. calls;
  all = tt;
}

-- where nothing came to the link until after the next call, nothing came before it, and it did what a call does then
next_step : {T : Type 0} {state : T → LinkState} {payloads : List RequestPayload}
    {start now next : ClientState T} {exchanges : List CallReport} {payload : RequestPayload}
    {rest : List RequestPayload} {answer : Answer} →
    Going state payloads start now exchanges (payload ∷ rest) → IsCall state payload now next answer →
    IsTrue (state start.link).tells → (state next.link).ever ≡ (state start.link).ever → lacks_memory answer ≡ false →
    ((state now.link).ever ≡ (state start.link).ever)
    × Step state start.buffered start.credential start.limit payload now.link next.link answer next.request_text next.response_text
next_step {state = state} {now = now} going call tells same room =
    let tells_on : IsTrue (state now.link).tells = rw going.keeps.tells tells in
    let quiet = same_before (going.grows tells) (exchanged_grows (call.exchange tells_on)) same in
    (quiet, rw (going.buffered, going.credential, going.limit) at (step_of call tells_on (same ∙ sym quiet) room))

-- after the next call it goes on
pub going_on : {T : Type 0} {state : T → LinkState} {payloads : List RequestPayload}
    {start now next : ClientState T} {exchanges : List CallReport} {payload : RequestPayload}
    {rest : List RequestPayload} {answer : Answer} →
    Going state payloads start now exchanges (payload ∷ rest) → IsCall state payload now next answer → GoesOn answer →
    Going state payloads start next (exchanges ++ client_report answer next ∷ []) rest
going_on {state = state} {payloads = payloads} {start = start} {now = now} {next = next}
    {exchanges = exchanges} {payload = payload} {rest = rest} {answer = answer} going call on =
    let told : CallReport = client_report answer next in
    record {
      keeps = keeps_on going.keeps call.keeps;
      credential = call.credential ∙ going.credential;
      limit = call.limit ∙ going.limit;
      buffered = call.buffered ∙ going.buffered;
      errors = call.count ∙ ap (λ (lost : Bool). count_after now.errors lost) on.0 ∙ going.errors;
      connected = ends_one exchanges told ∙ on.0;
      grows = λ tells. grows_on (going.grows tells) (exchanged_grows (call.exchange (rw going.keeps.tells tells)));
      so_far = λ tells same.
          let step = next_step going call tells same on.1 in
          turn exchanges start.credential start.limit payload rest answer going.keeps
          (going.so_far tells step.0) step.1 step.1.exchanged on.0;
      stops = stops_on payloads exchanges payload rest told on going.stops;
      calls = calls_on state payloads start exchanges now next payload rest answer call going.calls;
      all = all_one exchanges told going.all on;
    }

-- after one that lost the connection it ends
pub session_lost : {T : Type 0} {state : T → LinkState} {payloads : List RequestPayload}
    {start now next : ClientState T} {exchanges : List CallReport} {payload : RequestPayload}
    {rest : List RequestPayload} {answer : Answer} →
    Going state payloads start now exchanges (payload ∷ rest) → IsCall state payload now next answer
    → loses_connection answer ≡ true → lacks_memory answer ≡ false →
    IsSession state payloads start next (exchanges ++ client_report answer next ∷ [])
session_lost {state = state} {payloads = payloads} {start = start} {now = now} {next = next}
    {exchanges = exchanges} {payload = payload} {rest = rest}
    {answer = answer} going call lost room =
    let told : CallReport = client_report answer next in
    let made : Calls state payloads start (exchanges ++ told ∷ []) next =
    calls_end state payloads start (exchanges ++ told ∷ []) next rest
    (calls_on state payloads start exchanges now next payload rest answer call going.calls) in
    record {
      ran = λ tells same.
          let step = next_step going call tells same room in
          stop exchanges start.credential start.limit payload rest answer going.keeps
          (going.so_far tells step.0) step.1 step.1.exchanged lost;
      stops = going.stops (told ∷ []) (at_loss payload rest told lost);
      calls = made;
      texts = calls_texts state payloads start (exchanges ++ told ∷ []) next made;
      requests = calls_requests state start.buffered start.credential payloads start
          (exchanges ++ told ∷ []) next refl refl (room_one exchanges told going.all room) made;
      count = call.count ∙ ap (λ (n : ℕ). count_after n (loses_connection answer)) going.errors
          ∙ ap (λ (lost : Bool). count_after start.errors lost) (sym (ends_one exchanges told));
    }

-- and where no request is left
pub session_done : {T : Type 0} {state : T → LinkState} {payloads : List RequestPayload}
    {start now : ClientState T} {exchanges : List CallReport} →
    Going state payloads start now exchanges [] → IsSession state payloads start now exchanges
session_done {state = state} {payloads = payloads} {start = start} {now = now} {exchanges = exchanges} going =
    let made : Calls state payloads start exchanges now = calls_end state payloads start exchanges now [] going.calls in
    record {
      ran = λ tells same. end state start.link now.link start.credential start.limit
          (left (state now.link)) (going.so_far tells same);
      stops = stops_end payloads exchanges going.stops;
      calls = made;
      texts = calls_texts state payloads start exchanges now made;
      requests =
          calls_requests state start.buffered start.credential payloads start exchanges now refl refl (have_room exchanges going.all) made;
      count = going.errors ∙ sym (ap (λ (lost : Bool). count_after start.errors lost) going.connected);
    }

-- where memory ran out at the next call, or after it, its answer is lost
pub session_cut : {T : Type 0} {state : T → LinkState} {payloads : List RequestPayload}
    {start now next : ClientState T} {exchanges : List CallReport} {payload : RequestPayload}
    {rest : List RequestPayload} {answer : Answer} →
    Going state payloads start now exchanges (payload ∷ rest) → IsCall state payload now next answer
    → CutOff state payloads start next
session_cut {state = state} {payloads = payloads} {start = start} {now = now} {next = next}
    {exchanges = exchanges} {payload = payload} {rest = rest} {answer = answer} going call =
    cut_off state payloads start exchanges now next payload rest answer call going.calls going.all
