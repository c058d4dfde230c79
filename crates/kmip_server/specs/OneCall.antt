-- One call over a server, for any answers of the maker that agree with its link.
use Rattle.std.specs.Prelude.{◌≡◌, ◌⊎◌, ℕ, ℤ, ◌<◌, List, [], Bool, true, false, Some, Err}
use Rattle.kmip_request_read.specs.Reading.{request_read, request_for}
use Rattle.kmip_link.specs.State.{LinkState, left}
use Rattle.kmip_client.specs.Outcome.{Answer}
use Rattle.kmip_client.specs.declared.error.Error.TheVariants.{RequestWriteError}
use Rattle.kmip_store.specs.declared.call.Call.{Call}
use Rattle.kmip_store.specs.declared.maker.Made.{Made}
use Rattle.kmip_store.specs.Makers.{MakerState}
use Rattle.kmip_server_core.specs.Requests.{request_of}
use Rattle.kmip_server.specs.Split.{messages_in}
use Rattle.kmip_server.specs.Machine.{fresh, run_of}
use Rattle.kmip_server.specs.Serving.{AreResponsesHeld}
use Rattle.kmip_server.specs.Joined.{CallSettings, Between, JoinedReport, Reported, Unsent, next, expected_calls, finish, has_unsent, IsUnsent, IsHeldNext, AreHeldNext, ReportsMatch}
use Rattle.kmip_server.specs.Link.{ServerLinkState, server_link_state, IsOpen}
use Rattle.kmip_server.specs.declared.called.LinkAfter.{LinkAfter}

-- a server and its client by the state of the link and all answers of the maker
abbrev pub between : ℤ → List Made → LinkState → Between
between t given link = record {
  objects = (run_of t given (messages_in link.sent).whole).objects;
  given = (run_of t given (messages_in link.sent).whole).given;
  asked = (run_of t given (messages_in link.sent).whole).asked;
  rest = left link;
}

-- the same as the link itself holds it, with no answer of the maker to come
abbrev pub standing : {M : Type 0} → (M → MakerState) → ServerLinkState M → Between
standing state link =
    record {
      objects = link.server.objects;
      given = [];
      asked = (state link.server.maker).asked;
      rest = left (server_link_state state link);
    }

-- With these answers of the maker, the responses to the whole messages that were sent are all that
-- there ever was to read.
pub record Agrees (t : ℤ) (given : List Made) (link : LinkState) : Type 0 where
  pub ever : (run_of t given (messages_in link.sent).whole).ever ≡ Some link.ever
  pub held : AreResponsesHeld t (fresh given) (messages_in link.sent).whole

-- With these answers of the maker, the call was reported as expected, and client and server are as
-- expected after it.
pub record CallMatches (settings : CallSettings) (call : Call) (before after : LinkState)
    (report : JoinedReport) (stops : Bool) (given : List Made) : Type 0 where
  pub agrees : Agrees settings.time given before
  pub next_is : next settings (between settings.time given before)
      call ≡ record {
        expected = Reported report;
        stops = stops;
        after = between settings.time given after;
      }
  pub held : IsHeldNext settings (between settings.time given before) call

-- so it is for any answers of the maker that agree with the link after the call
pub record CallAlwaysMatches (settings : CallSettings) (call : Call) (before after : LinkState)
    (report : JoinedReport) (stops : Bool) : Type 0 where
  pub whole : (messages_in after.sent).begun ≡ []
  pub came : (given : List Made) → Agrees settings.time given after →
      CallMatches settings call before after report stops given

-- The call's request was not sent whole, since the response to it has no wire form, with the
-- maker's answers as they are.
pub record CutCall {M : Type 0} (state : M → MakerState) (settings : CallSettings) (call : Call)
    (before : LinkState) (after : ServerLinkState M) (report : JoinedReport) : Type 0 where
  pub faults : 0 < after.faults
  pub agrees : Agrees settings.time (state after.server.maker).given before
  pub request : List ℕ
  pub next_is : next settings (between settings.time (state after.server.maker).given before)
      call ≡ record { expected = Unsent request; stops = true; after = standing state after }
  pub unsent : IsUnsent settings request report
  pub held : IsHeldNext settings (between settings.time (state after.server.maker).given before)
      call

-- what a call did to its link, and how it was reported
pub data CallEffect {M : Type 0} (state : M → MakerState) (settings : CallSettings) (call : Call)
    (before after : ServerLinkState M) (report : JoinedReport) (stops : Bool) : Type 0 where
  -- the link is open, and the call was reported as expected
  as_expected : IsOpen state after →
      CallAlwaysMatches settings call (server_link_state state before)
      (server_link_state state after) report stops →
      CallEffect state settings call before after report stops
  -- the link is faulted, and this was the last call, cut short
  cut_short : stops ≡ true →
      CutCall state settings call (server_link_state state before) after report →
      CallEffect state settings call before after report stops

-- whether the call failed at sending its request
abbrev pub fails_writing : Answer → Bool
fails_writing (Err (RequestWriteError text)) = true
fails_writing answer = false

-- the bytes are the request of this call
abbrev pub IsRequestOf : Call → List ℕ → Type 0
IsRequestOf call b = request_read b ≡ Some (request_for (request_of call))

-- how a call left the link
abbrev pub LinkIs : {M : Type 0} → ServerLinkState M → LinkAfter → Type 0
LinkIs link LinkAfter.Open = (link.starved ≡ false) × (link.faults ≡ 0)
LinkIs link LinkAfter.Faulted = (link.starved ≡ false) × (0 < link.faults)
LinkIs link LinkAfter.Starved = Unit {0}

-- After a call with this answer the link is not starved. It is not faulted either, or it faulted at
-- the request of this call, which was not sent whole.
abbrev pub IsLinkAfterCall : {M : Type 0} → Call → Answer → ServerLinkState M → Type 0
IsLinkAfterCall call answer link =
    (link.starved ≡ false) ×
    ((link.faults ≡ 0) ⊎ ((0 < link.faults) ×
    ((fails_writing answer ≡ true) × IsRequestOf call link.kept)))

-- With the maker's answers as they are at the end, each call was reported as expected, and client
-- and server are as expected afterwards.
pub record CallsEnd {M : Type 0} (state : M → MakerState) (settings : CallSettings)
    (before : LinkState) (after : ServerLinkState M) (calls : List Call)
    (xs : List JoinedReport) : Type 0 where
  pub meet : ReportsMatch settings
      (expected_calls settings (between settings.time (state after.server.maker).given before)
      calls) xs
  pub ends : standing state after ≡ finish settings
      (between settings.time (state after.server.maker).given before) calls
  pub opened : has_unsent
      (expected_calls settings (between settings.time (state after.server.maker).given before)
      calls) ≡ false → IsOpen state after
  pub faulted : has_unsent
      (expected_calls settings (between settings.time (state after.server.maker).given before)
      calls) ≡ true → 0 < after.faults
  pub held : AreHeldNext settings (between settings.time (state after.server.maker).given before)
      calls
