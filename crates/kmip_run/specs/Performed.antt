-- What a command did, whose text is written, in part, while it is made.
use Rattle.std.specs.Prelude.{◌≡◌, ◌⊎◌, ℕ, List, ◌++◌, false, Result, IfOk, OnOk, OnErr, IsErrOf, IsTrue}
use Rattle.kmip_link.specs.State.{SinkState, SinkKeeps, FaultCountRose}
use Rattle.kmip_link.specs.Plan.{MemoryState}
use Rattle.kmip_words.specs.Streams.{WrotePart}
use Rattle.kmip_run.specs.Transcript.{Transcript, Replays}
use Rattle.kmip_run.specs.Program.{is_cut, is_unbegun}
use Rattle.kmip_run.specs.declared.output.Cut.{Cut}
use Rattle.kmip_run.specs.declared.output.Cut.TheVariants as cuts
use Rattle.kmip_run.specs.declared.status.ScriptEnd.{ScriptEnd}
use Rattle.kmip_run.specs.declared.status.Status.{Status}
use Rattle.kmip_run.specs.declared.status.Status.TheVariants.{Ended, SinkFailed}

-- a first part of the text was written, and the rest is kept
pub record Moves (before after : SinkState) (text kept : List ℕ) : Type 0 where
  pub written : List ℕ
  pub parts : text ≡ written ++ kept
  pub sent : IsTrue before.tells → after.sent ≡ before.sent ++ written

-- What a command did to sink and link, and how it came to its end or was broken off. It began with
-- a text that was kept before, `old`, and `new` is kept then, to be written later.
pub record Performs (t : Transcript) (k0 k1 : SinkState) (before after : MemoryState)
    (old new : List ℕ) (result : Result ScriptEnd Cut) : Type 0 where
  pub keeps : SinkKeeps k0 k1
  -- at its end: the status, and what the link was fed and sent, are the transcript's
  pub done : IfOk result (λ end. Replays t before after (Ended end) old (old ++ t.text))
  -- at its end: a first part of the text was written, and the rest is kept
  pub moved : OnOk result (Moves k0 k1 (old ++ t.text) new)
  -- broken off: a first part of the text was written
  pub part : OnErr result (IsTrue k0.tells → WrotePart k0 k1 (old ++ t.text))
  pub cause : IsErrOf result cuts.SinkFailed → FaultCountRose k0.faults k1.faults

-- What a run did whose command began, and how it ended.
pub record Ends (t : Transcript) (k0 k1 : SinkState) (before after : MemoryState)
    (status : Status) : Type 0 where
  pub began : is_unbegun status ≡ false
  pub keeps : SinkKeeps k0 k1
  -- the status is the transcript's, unless the text was broken off
  pub status_is : (status ≡ t.status) ⊎ IsTrue (is_cut status)
  -- all is as the transcript says
  pub whole : IsTrue k0.tells → is_cut status ≡ false →
      Replays t before after status k0.sent k1.sent
  -- broken off: a first part of the text was written
  pub part : IsTrue k0.tells → IsTrue (is_cut status) → WrotePart k0 k1 t.text
  pub cause : status ≡ SinkFailed → FaultCountRose k0.faults k1.faults
