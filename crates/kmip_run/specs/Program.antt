-- What the program does with its words, and how it ends.
use Rattle.std.specs.Prelude.{◌≡◌, ◌⊎◌, ℕ, ◌+◌, ◌<◌, List, [], ◌++◌, length, Bool, true, false, Option, None, IsTrue, codes}
use Rattle.kmip_link.specs.State.{SourceState, SinkState, SourceKeeps, SinkKeeps, FaultCountRose, source_left}
use Rattle.kmip_link.specs.Plan.{MemoryState}
use Rattle.kmip_words.specs.Streams.{WrotePart}
use Rattle.kmip_run.specs.Commands.{command_of}
use Rattle.kmip_run.specs.Transcript.{command_transcript, most_script, reads_script, read_by, makes_calls, IsOfGrammar, Replays}
use Rattle.kmip_run.specs.declared.command.Command.{Command}
use Rattle.kmip_run.specs.declared.status.ScriptEnd.TheVariants.{Answered, Failed, NotOfGrammar}
use Rattle.kmip_run.specs.declared.status.Status.{Status}
use Rattle.kmip_run.specs.declared.status.Status.TheVariants.{Ended, SourceFailed, SinkFailed, OutOfMemory, TooLong}

-- the exit status
abbrev pub code_of : Status → ℕ
code_of (Ended Answered) = 0
code_of (Ended Failed) = 1
code_of (Ended NotOfGrammar) = 2
code_of SourceFailed = 3
code_of SinkFailed = 4
code_of OutOfMemory = 5
code_of TooLong = 6

-- whether nothing failed, so that all came about that the words and the script ask for
abbrev pub is_whole : Status → Bool
is_whole (Ended end) = true
is_whole SourceFailed = false
is_whole SinkFailed = false
is_whole OutOfMemory = false
is_whole TooLong = true

-- whether the text may have been broken off
abbrev pub is_cut : Status → Bool
is_cut (Ended end) = false
is_cut SourceFailed = false
is_cut SinkFailed = true
is_cut OutOfMemory = true
is_cut TooLong = false

-- whether the run ended before its command began
abbrev pub is_unbegun : Status → Bool
is_unbegun (Ended end) = false
is_unbegun SourceFailed = true
is_unbegun SinkFailed = false
is_unbegun OutOfMemory = false
is_unbegun TooLong = true

-- what the program reads from and writes to, and the link that it makes calls on
pub record Streams : Type 0 where
  pub source : SourceState
  pub sink : SinkState
  pub link : MemoryState

abbrev pub streams : SourceState → SinkState → MemoryState → Streams
streams source sink link = record { source = source; sink = sink; link = link }

-- What the program did for a command, or for words that are not of the grammar, and how it ended.
-- Some fields hold where the source or the sink `tells`: where its bytes are known to contracts.
pub record RunsCommand (command : Option Command) (before after : Streams) (status : Status) : Type 0 where
  -- source kept: what no read changes, and a count of faults that did not fall
  pub source_keeps : SourceKeeps before.source after.source
  -- sink kept: what no write changes, and a count of faults that did not fall
  pub sink_keeps : SinkKeeps before.sink after.sink
  -- transcript: without a failure what is written, fed, sent and taken, and the status, are its own
  pub whole : IsTrue before.source.tells → IsTrue before.sink.tells → IsTrue (is_whole status) →
      Replays (command_transcript command (source_left before.source)) before.link after.link status
      before.sink.sent after.sink.sent
  -- broken off: a first part of its text was written
  pub part : IsTrue before.source.tells → IsTrue before.sink.tells → IsTrue (is_cut status) →
      WrotePart before.sink after.sink (command_transcript command (source_left before.source)).text
  -- cause: the source failed in this run, or its count stands at its last value
  pub read_fault : status ≡ SourceFailed → FaultCountRose before.source.faults after.source.faults
  -- cause: the same of the sink
  pub write_fault : status ≡ SinkFailed → FaultCountRose before.sink.faults after.sink.faults
  -- refused words: whatever the source is, they end so, unless the refusal was broken off
  pub refused : command ≡ None → (status ≡ Ended NotOfGrammar) ⊎ IsTrue (is_cut status)
  -- refused words: this is written
  pub refused_text : command ≡ None → IsTrue before.sink.tells → status ≡ Ended NotOfGrammar →
      after.sink.sent ≡ before.sink.sent ++ codes "! words\n"
  -- refused words: and at most that
  pub refused_part : command ≡ None → IsTrue before.sink.tells →
      WrotePart before.sink after.sink (codes "! words\n")
  -- no script: nothing is read
  pub unread : reads_script command ≡ false → after.source ≡ before.source
  -- no script: whatever the source is, without a failure all is as the transcript says
  pub scriptless : reads_script command ≡ false → IsTrue before.sink.tells → is_cut status ≡ false →
      Replays (command_transcript command []) before.link after.link status before.sink.sent
      after.sink.sent
  -- no script: broken off, a first part of its text was written
  pub scriptless_part : reads_script command ≡ false → IsTrue before.sink.tells →
      IsTrue (is_cut status) → WrotePart before.sink after.sink (command_transcript command []).text
  -- no script: the status is the transcript's, unless the text was broken off
  pub scriptless_status : reads_script command ≡ false →
      (status ≡ (command_transcript command []).status) ⊎ IsTrue (is_cut status)
  -- link kept: no call is made on it, or the command did not begin
  pub kept : (makes_calls command ≡ false) ⊎ IsTrue (is_unbegun status) → after.link ≡ before.link
  -- nothing written: the command did not begin
  pub silent : IsTrue (is_unbegun status) → after.sink ≡ before.sink
  -- cause: the script is too long
  pub too_long : IsTrue before.source.tells → status ≡ TooLong →
      IsTrue (reads_script command) × (most_script < length (source_left before.source))
  -- script too long: it ends so, unless the source failed or memory ran out
  pub long : IsTrue before.source.tells → IsTrue (reads_script command) →
      most_script < length (source_left before.source) →
      (status ≡ TooLong) ⊎ ((status ≡ SourceFailed) ⊎ (status ≡ OutOfMemory))
  -- bytes read: the whole script, and at most one byte more than it may have
  pub read : IsTrue before.source.tells → IsTrue (is_whole status) →
      after.source.pos ≡
      before.source.pos + read_by command (length (source_left before.source))
  -- completeness: words and a script of the grammar are followed, unless source or sink fails
  pub complete : IsTrue before.source.tells →
      (FaultCountRose before.source.faults after.source.faults → ⊥) →
      (FaultCountRose before.sink.faults after.sink.faults → ⊥) →
      IsOfGrammar command (source_left before.source) →
      (status ≡ Ended Answered) ⊎ ((status ≡ Ended Failed) ⊎ (status ≡ OutOfMemory))

-- What the program did with these words: what it does for the command that they are.
abbrev pub Runs : List (List ℕ) → Streams → Streams → Status → Type 0
Runs words before after status = RunsCommand (command_of words) before after status

-- the same, where the program ended with the exit status of this number
pub record RunsTo (words : List (List ℕ)) (before after : Streams) (code : ℕ) : Type 0 where
  pub status : Status
  pub code_is : code ≡ code_of status
  pub runs : Runs words before after status
