-- What the program writes, and with which status it ends.
use Rattle.std.specs.Prelude.{◌≡◌, ℕ, ◌+◌, ◌≤◌, List, [], ◌∷◌, ◌++◌, length, drop, min, Bool, true, false, Option, Some, None, IsSome, if◌then◌else◌, ◌&&◌, nat_lt, IsTrue, codes}
use Rattle.std.specs.Fmt.{decimal}
use Rattle.std.specs.List.{All}
use Rattle.std.specs.Str.{is_utf8}
use Rattle.kmip_diag.specs.Expansion.{expansion}
use Rattle.kmip_link.specs.Plan.{MemoryState}
use Rattle.kmip_audit.specs.Report.{report_of}
use Rattle.kmip_audit.specs.Printed.{report_text}
use Rattle.kmip_run.specs.Script.{lines_of}
use Rattle.kmip_run.specs.Auditing.{captured_in, AreStreams}
use Rattle.kmip_words.specs.Calls.{call_of}
use Rattle.kmip_joined.specs.Lines.{helper_call}
use Rattle.kmip_joined.specs.World.{World, Joined, joined_step, nothing_yet}
use Rattle.kmip_words.specs.Exchange.{Settings, Step, step, call_text}
use Rattle.kmip_run.specs.Setup.{settings_for}
use Rattle.kmip_run.specs.Making.{Counts, counts_after, made_settings, made_text}
use Rattle.kmip_run.specs.declared.auditing.Captured.{Captured}
use Rattle.kmip_run.specs.declared.auditing.Captured.TheVariants.{Streams, Bad}
use Rattle.kmip_run.specs.declared.command.Command.{Command}
use Rattle.kmip_run.specs.declared.command.Command.TheVariants.{Replay, Explain, Make, Audit}
use Rattle.kmip_run.specs.declared.status.ScriptEnd.{ScriptEnd}
use Rattle.kmip_run.specs.declared.status.ScriptEnd.TheVariants.{Answered, Failed, NotOfGrammar}
use Rattle.kmip_run.specs.declared.status.Status.{Status}
use Rattle.kmip_run.specs.declared.status.Status.TheVariants.{Ended, TooLong}

-- what is written, the status, the bytes that are fed to the link and that are sent over it, and
-- how many are taken from it
pub record Transcript : Type 0 where
  pub text : List ℕ
  pub status : Status
  pub fed : List ℕ
  pub sent : List ℕ
  pub taken : ℕ

-- a text, and nothing on the link
abbrev pub only_text : List ℕ → Status → Transcript
only_text text status = record { text = text; status = status; fed = []; sent = []; taken = 0 }

-- a line that is not of the grammar, by its number
abbrev pub bad_line : ℕ → Transcript
bad_line number =
    only_text (codes "! line " ++ (decimal number ++ codes "\n")) (Ended NotOfGrammar)

-- the end after a call: `Failed` once some answer was an error
abbrev pub end_after : ScriptEnd → Bool → ScriptEnd
end_after end true = Failed
end_after end false = end

-- a call that is fed this response, and the later lines
abbrev pub then_later : List ℕ → Step → Transcript → Transcript
then_later fed s later = record {
  text = call_text s ++ later.text;
  status = later.status;
  fed = fed ++ later.fed;
  sent = s.sent ++ later.sent;
  taken = s.taken + later.taken;
}

-- the calls of these lines, given the number of the first, the end so far, and the bytes left
unfoldable pub replay_from : Settings → List (List ℕ) → ℕ → ScriptEnd → List ℕ → Transcript
replay_from settings [] number end rest = only_text [] (Ended end)
replay_from settings (line ∷ lines) number end rest = elim (call_of line) [
  | None ↦ bad_line number
  | Some it ↦
      let s : Step = step settings it.call (rest ++ it.response) in
      then_later it.response s
      (replay_from settings lines (number + 1) (end_after end s.failed)
      (drop s.taken (rest ++ it.response)))
]

-- the expansion of a line that is a diagnostic
unfoldable pub line_expansion : List ℕ → Option (List ℕ)
line_expansion line = if is_utf8 line then expansion (Some 0x4200) line else None

-- this text and the later one, with the later status
abbrev pub then_text : List ℕ → Transcript → Transcript
then_text text later = only_text (text ++ later.text) later.status

-- the expansions of these lines, given the number of the first
unfoldable pub explanations_from : List (List ℕ) → ℕ → Transcript
explanations_from [] number = only_text [] (Ended Answered)
explanations_from (line ∷ lines) number = elim (line_expansion line) [
  | None ↦ bad_line number
  | Some text ↦ then_text text (explanations_from lines (number + 1))
]

-- the calls of these lines over a server in memory, given the number of the first, the end so far,
-- and the state of client and server
unfoldable pub joined : Settings → List (List ℕ) → ℕ → ScriptEnd → World → Transcript
joined settings [] number end world = only_text [] (Ended end)
joined settings (line ∷ lines) number end world = elim (helper_call line) [
  | None ↦ bad_line number
  | Some call ↦
      let it : Joined = joined_step settings call world in
      then_text (call_text it.step)
      (joined settings lines (number + 1) (end_after end it.step.failed) it.after)
]

-- the report on two captured streams
abbrev pub report_transcript : Captured → Transcript
report_transcript (Streams sent received) =
    only_text (report_text (report_of sent received)) (Ended Answered)
report_transcript (Bad number) = bad_line number

abbrev pub audit_transcript : List (List ℕ) → Transcript
audit_transcript lines = report_transcript (captured_in lines)

-- the lines with the counts of exchanges, and what is fed, sent and taken in these
abbrev pub counted_transcript : ℕ → Counts → Transcript
counted_transcript count c =
    record {
      text = made_text count c.ok c.errors (length c.sent) c.taken;
      status = Ended Answered;
      fed = c.fed;
      sent = c.sent;
      taken = c.taken;
    }

-- `count` exchanges, the first made from the number after 1
abbrev pub made_transcript : ℕ → Transcript
made_transcript count = counted_transcript count (counts_after made_settings count 1 [])

-- what a command makes of the lines of its script
abbrev pub lines_transcript : Command → List (List ℕ) → Transcript
lines_transcript (Replay options) lines =
    replay_from (settings_for options) lines 1 Answered []
lines_transcript Explain lines = explanations_from lines 1
lines_transcript (Make count) lines = made_transcript count
lines_transcript Audit lines = audit_transcript lines
lines_transcript (Command.Joined options) lines =
    joined (settings_for options) lines 1 Answered nothing_yet

-- whether the command reads a script
abbrev pub reads_script : Option Command → Bool
reads_script (Some (Replay options)) = true
reads_script (Some Explain) = true
reads_script (Some (Make count)) = false
reads_script (Some Audit) = true
reads_script (Some (Command.Joined options)) = true
reads_script None = false

-- the most bytes that a script may have
unfoldable pub most_script : ℕ
most_script = 16777216

unfoldable pub script_transcript : Command → List ℕ → Transcript
script_transcript command script =
    if reads_script (Some command) && nat_lt most_script (length script) then only_text [] TooLong
    else lines_transcript command (lines_of script)

-- what the program does for a command, or for words that are not of the grammar
abbrev pub command_transcript : Option Command → List ℕ → Transcript
command_transcript None script = only_text (codes "! words\n") (Ended NotOfGrammar)
command_transcript (Some command) script = script_transcript command script

-- how many of the bytes left a command reads: all, but at most one more than a script may have; and
-- none where it reads no script
abbrev pub read_by : Option Command → ℕ → ℕ
read_by command left = if reads_script command then min (most_script + 1) left else 0

-- whether the command makes calls over the link that is handed in
abbrev pub makes_calls : Option Command → Bool
makes_calls (Some (Replay options)) = true
makes_calls (Some Explain) = false
makes_calls (Some (Make count)) = true
makes_calls (Some Audit) = false
makes_calls (Some (Command.Joined options)) = false
makes_calls None = false

-- The line is of the grammar of a command; for `audit` see `AreLinesOf`.
abbrev pub IsLineOf : Option Command → List ℕ → Type 0
IsLineOf (Some (Replay options)) line = IsSome (call_of line)
IsLineOf (Some Explain) line = IsSome (line_expansion line)
IsLineOf (Some (Make count)) line = ⊥
IsLineOf (Some Audit) line = Unit {0}
IsLineOf (Some (Command.Joined options)) line = IsSome (helper_call line)
IsLineOf None line = ⊥

-- The lines together are of the grammar of a command: those of `audit` are two, each one word in
-- hex.
abbrev pub AreLinesOf : Option Command → List (List ℕ) → Type 0
AreLinesOf (Some Audit) lines = AreStreams (captured_in lines)
AreLinesOf command lines = Unit {0}

-- The words are a command; and where it reads a script, the script is not too long, and each line
-- of it is of the grammar.
pub record IsOfGrammar (command : Option Command) (script : List ℕ) : Type 0 where
  pub words_are : IsSome command
  pub lines_are : IsTrue (reads_script command) → All (IsLineOf command) (lines_of script)
  pub together : AreLinesOf command (lines_of script)
  pub fits : IsTrue (reads_script command) → length script ≤ most_script

-- what a call did to the link, and to the text
pub record RunsCall (s : Step) (fed : List ℕ) (before after : MemoryState) (failed : Bool)
    (old new : List ℕ) : Type 0 where
  pub text : new ≡ old ++ call_text s
  pub failed_is : failed ≡ s.failed
  pub ever : after.ever ≡ before.ever ++ fed
  pub sent : after.sent ≡ before.sent ++ s.sent
  pub pos : after.pos ≡ before.pos + s.taken
  pub left : drop after.pos after.ever ≡ drop s.taken (drop before.pos before.ever ++ fed)

-- what the lines did to the link, and to the text
pub record Replays (t : Transcript) (before after : MemoryState) (status : Status)
    (old new : List ℕ) : Type 0 where
  pub text : new ≡ old ++ t.text
  pub status_is : status ≡ t.status
  pub ever : after.ever ≡ before.ever ++ t.fed
  pub sent : after.sent ≡ before.sent ++ t.sent
  pub pos : after.pos ≡ before.pos + t.taken
