-- What the program does with its words and its script.
use Rattle.std.proofs.Common.{◌≡◌, ℕ, ◌+◌, ◌<◌, ◌≤◌, ◌⊎◌, inl, inr, List, [], ◌∷◌, ◌++◌, length, take, drop, min, refl, ◌∙◌, ap, sym, subst, arith, append_assoc, codes, Option, Some, None, Ok, Err, Bool, true, false, IsSome, IsTrue}
use Rattle.std.proofs.lemmas.Bool.Decides.{nat_tests}
use Rattle.std.proofs.lemmas.List.{length-take, take_all}
use Rattle.std.specs.List.{All}
use Rattle.std.proofs.lemmas.List.Elements.{All-head, All-tail}
use Rattle.kmip_link.specs.Plan.{MemoryState}
use Rattle.kmip_link.specs.State.{SourceState, SinkState, SourceKeeps, SinkKeeps, FaultCountRose, source_left}
use Rattle.kmip_run.specs.Script.{lines_of}
use Rattle.kmip_words.specs.Calls.{call_of}
use Rattle.kmip_words.specs.Exchange.{Settings, Step, step}
use Rattle.kmip_run.specs.Setup.{settings_for}
use Rattle.kmip_words.specs.Streams.{WrotePart}
use Rattle.kmip_run.specs.Transcript.{Transcript, only_text, end_after, replay_from, line_expansion, explanations_from, joined, report_transcript, audit_transcript, lines_transcript, most_script, reads_script, makes_calls, script_transcript, command_transcript, IsLineOf, AreLinesOf, IsOfGrammar, Replays}
use Rattle.kmip_run.specs.Performed.{Performs, Ends}
use Rattle.kmip_run.specs.Program.{is_whole, is_cut, is_unbegun, streams, RunsCommand}
use Rattle.kmip_run.specs.Auditing.{captured_in, AreStreams}
use Rattle.kmip_run.specs.declared.auditing.Captured.{Captured}
use Rattle.kmip_run.specs.declared.auditing.Captured.TheVariants.{Streams, Bad}
use Rattle.kmip_run.specs.declared.command.Command.{Command}
use Rattle.kmip_run.specs.declared.command.Command.TheVariants.{Replay, Explain, Make, Audit, Joined}
use Rattle.kmip_run.specs.declared.output.Cut.{Cut}
use Rattle.kmip_run.specs.declared.output.Cut.TheVariants as cuts
use Rattle.kmip_run.specs.declared.status.ScriptEnd.{ScriptEnd}
use Rattle.kmip_run.specs.declared.status.ScriptEnd.TheVariants.{Answered, Failed, NotOfGrammar}
use Rattle.kmip_run.specs.declared.status.Status.{Status}
use Rattle.kmip_run.specs.declared.status.Status.TheVariants.{Ended, SourceFailed, SinkFailed, OutOfMemory, TooLong}
use Rattle.kmip_joined.specs.Lines.{helper_call}
use Rattle.kmip_joined.specs.World.{World, joined_step, nothing_yet}
use Rattle.kmip_run.proofs.Joins.{joined_call, joined_none, joined_alone}
use Rattle.kmip_run.proofs.Explained.{explained_line, explained_none, explained_alone}
use Rattle.kmip_words.proofs.Moves.{sink_keeps_on}
use Rattle.kmip_run.proofs.Pieces.{sink_same, none_moved, performed, part_moved, rose_on}
use Rattle.kmip_run.proofs.Runs.{append_none, replayed_call, replayed_none}

pub most : most_script ≡ 16777216
unfolding most_script
most = refl

transcript_long : (command : Command) (script : List ℕ) → reads_script (Some command) ≡ true
    → 16777216 < length script → script_transcript command script ≡ only_text [] TooLong
unfolding script_transcript most_script
transcript_long command script reads long = rw reads (grind (arith, nat_tests))

pub transcript_fits : (command : Command) (script : List ℕ) → length script ≤ 16777216
    → script_transcript command script ≡ lines_transcript command (lines_of script)
unfolding script_transcript most_script
transcript_fits (Replay options) script fits = grind (arith, nat_tests)
transcript_fits Explain script fits = grind (arith, nat_tests)
transcript_fits (Make count) script fits = refl
transcript_fits Audit script fits = grind (arith, nat_tests)
transcript_fits (Joined options) script fits = grind (arith, nat_tests)

-- a command that reads no script makes the same of each
transcript_same : (command : Command) (script : List ℕ) → reads_script (Some command) ≡ false
    → script_transcript command script ≡ script_transcript command []
unfolding script_transcript
transcript_same (Replay options) script unread = cc
transcript_same Explain script unread = cc
transcript_same (Make count) script unread = refl
transcript_same Audit script unread = cc
transcript_same (Joined options) script unread = cc

-- more was read than the longest script
pub script_long : (most : ℕ) (script left : List ℕ) → script ≡ take (most + 1) left
    → most < length script → most < length left
script_long most script left is long =
    let e : length script ≡ min (most + 1) (length left) = ap length is ∙ length-take (most + 1) left in omega arith

-- no more was read, so that it is the whole script
pub script_whole : (most : ℕ) (script left : List ℕ) → script ≡ take (most + 1) left
    → length script ≤ most → script ≡ left
script_whole most script left is fits =
    let e : length script ≡ min (most + 1) (length left) = ap length is ∙ length-take (most + 1) left in
    is ∙ take_all (most + 1) left (omega arith)

text_alone : (link : MemoryState) (text : List ℕ) (status : Status) (old : List ℕ)
    → Replays (only_text text status) link link status old (old ++ text)
text_alone link text status old = record {
  text = refl;
  status_is = refl;
  ever = append_none link.ever;
  sent = append_none link.sent;
  pos = omega arith;
}

nothing_written : (link : MemoryState) (status : Status) (old : List ℕ)
    → Replays (only_text [] status) link link status old old
nothing_written link status old = record {
  text = append_none old;
  status_is = refl;
  ever = append_none link.ever;
  sent = append_none link.sent;
  pos = omega arith;
}

-- nothing at all is a part of a text
no_part : (sink : SinkState) (text : List ℕ) → WrotePart sink sink text
no_part sink text = (0, omega arith, append_none sink.sent)

-- an end of calls that were all of the grammar
abbrev IsFollowed : Status → Type 0
IsFollowed status = (status ≡ Ended Answered) ⊎ (status ≡ Ended Failed)

followed_after : (end : ScriptEnd) (failed : Bool) → IsFollowed (Ended end) → IsFollowed (Ended (end_after end failed))
followed_after end true followed = inr refl
followed_after end false followed = followed

-- calls of the grammar
replay_followed : (settings : Settings) (lines : List (List ℕ)) (number : ℕ) (end : ScriptEnd) (rest : List ℕ)
    → IsFollowed (Ended end) → All (λ line. IsSome (call_of line)) lines
    → IsFollowed (replay_from settings lines number end rest).status
replay_followed settings [] number end rest followed good =
    rw (replayed_none settings [] number end rest refl) followed
replay_followed settings (line ∷ lines) number end rest followed good =
    elim (call_of line) as (λ o. call_of line ≡ o → IsSome o
    → IsFollowed (replay_from settings (line ∷ lines) number end rest).status) [
      | None ↦ λ e some. absurd (cc)
      | Some it ↦ λ e some.
          let s : Step = step settings it.call (rest ++ it.response) in
          rw (replayed_call settings line lines number end rest it (sym e))
          (replay_followed settings lines (number + 1) (end_after end s.failed)
          (drop s.taken (rest ++ it.response)) (followed_after end s.failed followed)
          (All-tail (λ l. IsSome (call_of l)) line lines good))
    ] refl (All-head (λ l. IsSome (call_of l)) line lines good)

-- diagnostics
explain_followed : (lines : List (List ℕ)) (number : ℕ)
    → All (λ line. IsSome (line_expansion line)) lines → IsFollowed (explanations_from lines number).status
explain_followed [] number good = rw (explained_none [] number refl) (inl refl)
explain_followed (line ∷ lines) number good =
    elim (line_expansion line) as (λ o. line_expansion line ≡ o → IsSome o →
    IsFollowed (explanations_from (line ∷ lines) number).status) [
      | None ↦ λ e some. absurd (cc)
      | Some text ↦ λ e some. rw (explained_line line lines number text (sym e))
          (explain_followed lines (number + 1)
          (All-tail (λ l. IsSome (line_expansion l)) line lines good))
    ] refl (All-head (λ l. IsSome (line_expansion l)) line lines good)

-- two streams
report_followed : (captured : Captured) → AreStreams captured → IsFollowed (report_transcript captured).status
report_followed (Streams sent received) good = inl refl
report_followed (Bad number) good = absurd good

-- calls over a server
joined_followed : (settings : Settings) (lines : List (List ℕ)) (number : ℕ) (end : ScriptEnd) (world : World)
    → IsFollowed (Ended end) → All (λ line. IsSome (helper_call line)) lines
    → IsFollowed (joined settings lines number end world).status
joined_followed settings [] number end world followed good =
    rw (joined_none settings [] number end world refl) followed
joined_followed settings (line ∷ lines) number end world followed good =
    elim (helper_call line) as (λ o. helper_call line ≡ o → IsSome o →
    IsFollowed (joined settings (line ∷ lines) number end world).status) [
      | None ↦ λ e some. absurd (cc)
      | Some call ↦ λ e some.
          let it = joined_step settings call world in
          rw (joined_call settings line lines number end world call (sym e))
          (joined_followed settings lines (number + 1) (end_after end it.step.failed) it.after
          (followed_after end it.step.failed followed)
          (All-tail (λ l. IsSome (helper_call l)) line lines good))
    ] refl (All-head (λ l. IsSome (helper_call l)) line lines good)

lines_followed : (command : Command) (lines : List (List ℕ))
    → (IsTrue (reads_script (Some command)) → All (IsLineOf (Some command)) lines)
    → AreLinesOf (Some command) lines → IsFollowed (lines_transcript command lines).status
lines_followed (Replay options) lines good together =
    replay_followed (settings_for options) lines 1 Answered [] (inl refl) (good refl)
lines_followed Explain lines good together = explain_followed lines 1 (good refl)
lines_followed (Make count) lines good together = inl refl
lines_followed Audit lines good together = report_followed (captured_in lines) together
lines_followed (Joined options) lines good together =
    joined_followed (settings_for options) lines 1 Answered nothing_yet (inl refl) (good refl)

-- the script of a command, where it reads one and this is not too long
lines_whole : (command : Command) (script : List ℕ)
    → (IsTrue (reads_script (Some command)) → length script ≤ 16777216)
    → script_transcript command script ≡ lines_transcript command (lines_of script)
lines_whole (Replay options) script fits = transcript_fits (Replay options) script (fits refl)
lines_whole Explain script fits = transcript_fits Explain script (fits refl)
lines_whole Audit script fits = transcript_fits Audit script (fits refl)
lines_whole (Joined options) script fits = transcript_fits (Joined options) script (fits refl)
lines_whole (Make count) script fits =
    transcript_same (Make count) script refl ∙ transcript_fits (Make count) [] (omega arith)

-- a script of the grammar
script_followed : (command : Command) (script : List ℕ) → IsOfGrammar (Some command) script
    → IsFollowed (script_transcript command script).status
script_followed command script good =
    let fits : IsTrue (reads_script (Some command)) → length script ≤ 16777216 = rw most at good.fits in
    rw (lines_whole command script fits)
    (lines_followed command (lines_of script) good.lines_are good.together)

text_now : (t : Transcript) (link : MemoryState) (status : Status) (old new : List ℕ)
    → t ≡ only_text t.text t.status → status ≡ t.status → new ≡ old ++ t.text
    → Replays t link link status old new
text_now t link status old new alone status_is text = rw (status_is, text, alone) (text_alone link t.text t.status old)

-- a text alone was made, and nothing is on the link
writes : (t : Transcript) (link : MemoryState) (sink : SinkState) (end : ScriptEnd) (old new : List ℕ)
    → t ≡ only_text t.text t.status → Ended end ≡ t.status → new ≡ old ++ t.text
    → Performs t sink sink link link old new (Ok end)
writes t link sink end old new alone status_is text =
    performed end (text_now t link (Ended end) old new alone status_is text) (sink_same sink) (none_moved sink new)

pub explains : (link : MemoryState) (sink : SinkState) (lines : List (List ℕ)) (end : ScriptEnd) (old new : List ℕ) →
    Ended end ≡ (explanations_from lines 1).status → new ≡ old ++ (explanations_from lines 1).text
    → Performs (explanations_from lines 1) sink sink link link old new (Ok end)
explains link sink lines end old new =
    writes (explanations_from lines 1) link sink end old new (explained_alone lines 1)

pub joins : (link : MemoryState) (sink : SinkState) (settings : Settings) (lines : List (List ℕ))
    (end : ScriptEnd) (old new : List ℕ) →
    Ended end ≡ (joined settings lines 1 Answered nothing_yet).status
    → new ≡ old ++ (joined settings lines 1 Answered nothing_yet).text
    → Performs (joined settings lines 1 Answered nothing_yet) sink sink link link old new (Ok end)
joins link sink settings lines end old new =
    writes (joined settings lines 1 Answered nothing_yet) link sink end old new
    (joined_alone settings lines 1 Answered nothing_yet)

-- nothing is on the link
reported_alone : (captured : Captured)
    → report_transcript captured ≡ only_text (report_transcript captured).text
    (report_transcript captured).status
reported_alone (Streams sent received) = refl
reported_alone (Bad number) = refl

pub audits : (link : MemoryState) (sink : SinkState) (lines : List (List ℕ)) (end : ScriptEnd) (old new : List ℕ) →
    Ended end ≡ (audit_transcript lines).status → new ≡ old ++ (audit_transcript lines).text
    → Performs (audit_transcript lines) sink sink link link old new (Ok end)
audits link sink lines end old new =
    writes (audit_transcript lines) link sink end old new (reported_alone (captured_in lines))

-- exchanges were made, and nothing is written yet
pub makes : {t : Transcript} {l0 l1 : MemoryState} {old new : List ℕ} (sink : SinkState) (end : ScriptEnd)
    → Replays t l0 l1 (Ended end) old new → Performs t sink sink l0 l1 old new (Ok end)
makes {new = new} sink end did = performed end did (sink_same sink) (none_moved sink new)

-- What `finish` did with a text, whose script came to this end.
pub record Finishes (text : List ℕ) (end : ScriptEnd) (before after : SinkState) (status : Status) : Type 0 where
  pub keeps : SinkKeeps before after
  pub fault : status ≡ SinkFailed → FaultCountRose before.faults after.faults
  pub status_is : (status ≡ Ended end) ⊎ ((status ≡ SinkFailed) ⊎ (status ≡ OutOfMemory))
  pub written : IsTrue before.tells → status ≡ Ended end → after.sent ≡ before.sent ++ text
  pub part : IsTrue before.tells → WrotePart before after text

-- the status of a run that was not cut
uncut : (status : Status) (end : ScriptEnd) → (status ≡ Ended end) ⊎ ((status ≡ SinkFailed) ⊎ (status ≡ OutOfMemory))
    → is_cut status ≡ false → status ≡ Ended end
uncut status end (inl is) not_cut = is
uncut status end (inr (inl is)) not_cut = let e : is_cut SinkFailed ≡ false = rw is at not_cut in absurd (cc)
uncut status end (inr (inr is)) not_cut = let e : is_cut OutOfMemory ≡ false = rw is at not_cut in absurd (cc)

whole_uncut : (status : Status) → IsTrue (is_whole status) → is_cut status ≡ false
whole_uncut (Ended end) whole = refl
whole_uncut SourceFailed whole = refl
whole_uncut SinkFailed whole = absurd (cc)
whole_uncut OutOfMemory whole = absurd (cc)
whole_uncut TooLong whole = refl

-- the status is this one, or the run was cut
or_cut : (status end : Status) → (status ≡ end) ⊎ ((status ≡ SinkFailed) ⊎ (status ≡ OutOfMemory))
    → (status ≡ end) ⊎ IsTrue (is_cut status)
or_cut status end (inl is) = inl is
or_cut status end (inr (inl is)) = inr (rw is refl)
or_cut status end (inr (inr is)) = inr (rw is refl)

-- a run that began
begun : (status : Status) (end : ScriptEnd) → (status ≡ Ended end) ⊎ ((status ≡ SinkFailed) ⊎ (status ≡ OutOfMemory))
    → is_unbegun status ≡ false
begun status end (inl is) = rw is refl
begun status end (inr (inl is)) = rw is refl
begun status end (inr (inr is)) = rw is refl

begun_not : (status : Status) → is_unbegun status ≡ false → IsTrue (is_unbegun status) → ⊥
begun_not status began unbegun = cc

not_source_failed : (status : Status) → is_unbegun status ≡ false → status ≡ SourceFailed → ⊥
not_source_failed status began is = let e : is_unbegun SourceFailed ≡ false = rw is at began in cc

not_too_long : (status : Status) → is_unbegun status ≡ false → status ≡ TooLong → ⊥
not_too_long status began is = let e : is_unbegun TooLong ≡ false = rw is at began in cc

-- the link is as it was, where the command makes no calls
kept_begun : {l0 l1 : MemoryState} (command : Option Command) (status : Status)
    → (makes_calls command ≡ false → l1 ≡ l0) → is_unbegun status ≡ false
    → (makes_calls command ≡ false) ⊎ IsTrue (is_unbegun status) → l1 ≡ l0
kept_begun command status kept began (inl none) = kept none
kept_begun command status kept began (inr unbegun) = absurd (begun_not status began unbegun)

-- words and a script of the grammar, and no fault
cut_completes : (status : Status) → IsTrue (is_cut status) → (status ≡ SinkFailed → ⊥)
    → (status ≡ Ended Answered) ⊎ ((status ≡ Ended Failed) ⊎ (status ≡ OutOfMemory))
cut_completes (Ended end) cut steady = absurd (cc)
cut_completes SourceFailed cut steady = absurd (cc)
cut_completes SinkFailed cut steady = absurd (steady refl)
cut_completes OutOfMemory cut steady = inr (inr refl)
cut_completes TooLong cut steady = absurd (cc)

completes : (status t : Status) → (status ≡ t) ⊎ IsTrue (is_cut status) → (status ≡ SinkFailed → ⊥) → IsFollowed t
    → (status ≡ Ended Answered) ⊎ ((status ≡ Ended Failed) ⊎ (status ≡ OutOfMemory))
completes status t (inl is) steady (inl followed) = inl (is ∙ followed)
completes status t (inl is) steady (inr followed) = inr (inl (is ∙ followed))
completes status t (inr cut) steady followed = cut_completes status cut steady

-- a command came to its end, and what was kept of its text was written, or a part of it
pub finish_ends : {t : Transcript} {k0 k k1 : SinkState} {l0 l : MemoryState} {kept : List ℕ} {end : ScriptEnd}
    (status : Status) → Performs t k0 k l0 l [] kept (Ok end) → Finishes kept end k k1 status
    → Ends t k0 k1 l0 l status
finish_ends {t = t} {k0 = k0} {k = k} {k1 = k1} {kept = kept} {end = end} status p f =
    let on : IsTrue k0.tells → IsTrue k.tells = λ tells. rw p.keeps.tells tells in
    record {
      began = begun status end f.status_is;
      keeps = sink_keeps_on p.keeps f.keeps;
      status_is = or_cut status t.status (rw p.done.status_is at f.status_is);
      whole = λ tells not_cut.
          let ended : status ≡ Ended end = uncut status end f.status_is not_cut in
          record {
            text = f.written (on tells) ended ∙ ap (λ (l : List ℕ). l ++ kept) (p.moved.sent tells)
                ∙ append_assoc k0.sent p.moved.written kept
                ∙ ap (λ (l : List ℕ). k0.sent ++ l) (sym p.moved.parts);
            status_is = ended ∙ p.done.status_is;
            ever = p.done.ever;
            sent = p.done.sent;
            pos = p.done.pos;
          };
      part = λ tells is. part_moved k1 p.moved tells (f.part (on tells));
      cause = λ is. rose_on k0.faults k.faults k1.faults p.keeps.faults (f.fault is);
    }

-- a command was broken off
pub cut_ends : {t : Transcript} {k0 k1 : SinkState} {l0 l1 : MemoryState} {kept : List ℕ} {cause : Cut}
    (status : Status) → is_unbegun status ≡ false → IsTrue (is_cut status)
    → (status ≡ SinkFailed → cause ≡ cuts.SinkFailed) → Performs t k0 k1 l0 l1 [] kept (Err cause)
    → Ends t k0 k1 l0 l1 status
cut_ends status began cut failed p = record {
  began = began;
  keeps = p.keeps;
  status_is = inr cut;
  whole = λ tells not_cut. absurd (cc);
  part = λ tells is. p.part tells;
  cause = λ is. p.cause (ap Err (failed is));
}

pub source_same : (source : SourceState) → SourceKeeps source source
source_same source = record { tells = refl; faults = omega arith }

-- memory ran out before anything was written
pub memory_ended : (command : Option Command) (s0 s1 : SourceState) (k : SinkState) (l0 l1 : MemoryState) →
    SourceKeeps s0 s1 → (reads_script command ≡ false → s1 ≡ s0) → (makes_calls command ≡ false → l1 ≡ l0)
    → RunsCommand command (streams s0 k l0) (streams s1 k l1) OutOfMemory
memory_ended command s0 s1 k l0 l1 keeps unread kept = record {
  source_keeps = keeps;
  sink_keeps = sink_same k;
  whole = λ source sink is. absurd (cc);
  part = λ source sink is. no_part k (command_transcript command (source_left s0)).text;
  read_fault = λ is. absurd (cc);
  write_fault = λ is. absurd (cc);
  refused = λ none. inr refl;
  refused_text = λ none sink is. absurd (cc);
  refused_part = λ none sink. no_part k (codes "! words\n");
  unread = unread;
  scriptless = λ none sink is. absurd (cc);
  scriptless_part = λ none sink is. no_part k (command_transcript command []).text;
  scriptless_status = λ none. inr refl;
  kept = kept_begun command OutOfMemory kept refl;
  silent = λ is. refl;
  too_long = λ source is. absurd (cc);
  long = λ source reads long. inr (inr refl);
  read = λ source is. absurd (cc);
  complete = λ source sound steady good. inr (inr refl);
}

-- the source failed
pub source_ended : (command : Command) (s0 s1 : SourceState) (k : SinkState) (l : MemoryState) →
    reads_script (Some command) ≡ true → SourceKeeps s0 s1 → FaultCountRose s0.faults s1.faults
    → RunsCommand (Some command) (streams s0 k l) (streams s1 k l) SourceFailed
source_ended command s0 s1 k l reads keeps rose = record {
  source_keeps = keeps;
  sink_keeps = sink_same k;
  whole = λ source sink is. absurd (cc);
  part = λ source sink is. absurd (cc);
  read_fault = λ is. rose;
  write_fault = λ is. absurd (cc);
  refused = λ none. absurd (cc);
  refused_text = λ none sink is. absurd (cc);
  refused_part = λ none sink. absurd (cc);
  unread = λ none. absurd (cc);
  scriptless = λ none sink is. absurd (cc);
  scriptless_part = λ none sink is. absurd (cc);
  scriptless_status = λ none. absurd (cc);
  kept = λ is. refl;
  silent = λ is. refl;
  too_long = λ source is. absurd (cc);
  long = λ source is long. inr (inl refl);
  read = λ source is. absurd (cc);
  complete = λ source sound steady good. absurd (sound rose);
}

-- the script is too long
pub long_ended : (command : Command) (s0 s1 : SourceState) (k : SinkState) (l : MemoryState) →
    reads_script (Some command) ≡ true → SourceKeeps s0 s1
    → (IsTrue s0.tells → 16777216 < length (source_left s0))
    → (IsTrue s0.tells → s1.pos ≡ s0.pos + min 16777217 (length (source_left s0)))
    → RunsCommand (Some command) (streams s0 k l) (streams s1 k l) TooLong
long_ended command s0 s1 k l reads keeps long read = record {
  source_keeps = keeps;
  sink_keeps = sink_same k;
  whole = λ source sink is. rw (transcript_long command (source_left s0) reads (long source))
      (nothing_written l TooLong k.sent);
  part = λ source sink is. absurd (cc);
  read_fault = λ is. absurd (cc);
  write_fault = λ is. absurd (cc);
  refused = λ none. absurd (cc);
  refused_text = λ none sink is. absurd (cc);
  refused_part = λ none sink. absurd (cc);
  unread = λ none. absurd (cc);
  scriptless = λ none sink is. absurd (cc);
  scriptless_part = λ none sink is. absurd (cc);
  scriptless_status = λ none. absurd (cc);
  kept = λ is. refl;
  silent = λ is. refl;
  too_long = λ source is. (reads, rw most (long source));
  long = λ source is more. inl refl;
  read = λ source is. rw (most, reads) (read source);
  complete = λ source sound steady good.
      let fits : length (source_left s0) ≤ 16777216 = rw most at (good.fits reads) in
      absurd (omega (arith, long source));
}

-- a script that was read whole and done, and whose text was written, or a part of it
script_ended : (command : Command) (t : Transcript) (s0 s1 : SourceState) (k0 k1 : SinkState) (l0 l1 : MemoryState)
    (status : Status) → reads_script (Some command) ≡ true → SourceKeeps s0 s1 →
    (IsTrue s0.tells → length (source_left s0) ≤ 16777216) →
    (IsTrue s0.tells → s1.pos ≡ s0.pos + min 16777217 (length (source_left s0))) →
    (IsTrue s0.tells → script_transcript command (source_left s0) ≡ t) →
    (makes_calls (Some command) ≡ false → l1 ≡ l0) → Ends t k0 k1 l0 l1 status
    → RunsCommand (Some command) (streams s0 k0 l0) (streams s1 k1 l1) status
script_ended command t s0 s1 k0 k1 l0 l1 status reads keeps fits read does kept e =
    record {
      source_keeps = keeps;
      sink_keeps = e.keeps;
      whole = λ source sink is. rw (does source) (e.whole sink (whole_uncut status is));
      part = λ source sink is. rw (does source) (e.part sink is);
      read_fault = λ is. absurd (not_source_failed status e.began is);
      write_fault = e.cause;
      refused = λ none. absurd (cc);
      refused_text = λ none sink is. absurd (cc);
      refused_part = λ none sink. absurd (cc);
      unread = λ none. absurd (cc);
      scriptless = λ none sink is. absurd (cc);
      scriptless_part = λ none sink is. absurd (cc);
      scriptless_status = λ none. absurd (cc);
      kept = kept_begun (Some command) status kept e.began;
      silent = λ is. absurd (begun_not status e.began is);
      too_long = λ source is. absurd (not_too_long status e.began is);
      long = λ source is long.
          let more : 16777216 < length (source_left s0) = rw most at long in
          absurd (omega (arith, fits source));
      read = λ source is. rw (most, reads) (read source);
      complete = λ source sound steady good.
          let followed : IsFollowed t.status =
          subst (λ (u : Transcript). IsFollowed u.status) (does source)
          (script_followed command (source_left s0) good) in
          completes status t.status e.status_is (λ is. steady (e.cause is)) followed;
    }

-- the same of a script that was read up to one byte more than it may have
pub script_read : (command : Command) (s0 s1 : SourceState) (k0 k1 : SinkState) (l0 l1 : MemoryState)
    (script : List ℕ) (status : Status) → reads_script (Some command) ≡ true →
    SourceKeeps s0 s1 → (IsTrue s0.tells → script ≡ take 16777217 (source_left s0)) → length script ≤ 16777216 →
    (IsTrue s0.tells → s1.pos ≡ s0.pos + min 16777217 (length (source_left s0))) →
    (makes_calls (Some command) ≡ false → l1 ≡ l0) →
    Ends (lines_transcript command (lines_of script)) k0 k1 l0 l1 status
    → RunsCommand (Some command) (streams s0 k0 l0) (streams s1 k1 l1) status
script_read command s0 s1 k0 k1 l0 l1 script status reads keeps bytes fits read kept e =
    let whole : IsTrue s0.tells → script ≡ source_left s0 =
    λ source. script_whole 16777216 script (source_left s0) (bytes source) fits in
    let within : IsTrue s0.tells → length (source_left s0) ≤ 16777216 =
    λ source. rw (whole source) at fits in
    script_ended command (lines_transcript command (lines_of script)) s0 s1 k0 k1 l0 l1 status reads keeps within read
    (λ source. ap (script_transcript command) (sym (whole source)) ∙ transcript_fits command script fits) kept e

-- a command that reads no script, done and written like that
pub alone_ended : (command : Command) (s : SourceState) (k0 k1 : SinkState) (l0 l1 : MemoryState)
    (status : Status) → reads_script (Some command) ≡ false → (makes_calls (Some command) ≡ false → l1 ≡ l0) →
    Ends (lines_transcript command []) k0 k1 l0 l1 status
    → RunsCommand (Some command) (streams s k0 l0) (streams s k1 l1) status
alone_ended command s k0 k1 l0 l1 status unread kept e =
    let alone : script_transcript command [] ≡ lines_transcript command [] = transcript_fits command [] (omega arith) in
    let same : script_transcript command (source_left s) ≡ lines_transcript command [] =
    transcript_same command (source_left s) unread ∙ alone in
    record {
      source_keeps = source_same s;
      sink_keeps = e.keeps;
      whole = λ source sink is. rw same (e.whole sink (whole_uncut status is));
      part = λ source sink is. rw same (e.part sink is);
      read_fault = λ is. absurd (not_source_failed status e.began is);
      write_fault = e.cause;
      refused = λ none. absurd (cc);
      refused_text = λ none sink is. absurd (cc);
      refused_part = λ none sink. absurd (cc);
      unread = λ none. refl;
      scriptless = λ none sink is. rw alone (e.whole sink is);
      scriptless_part = λ none sink is. rw alone (e.part sink is);
      scriptless_status = λ none. rw alone e.status_is;
      kept = kept_begun (Some command) status kept e.began;
      silent = λ is. absurd (begun_not status e.began is);
      too_long = λ source is. absurd (not_too_long status e.began is);
      long = λ source reads long. absurd (cc);
      read = λ source is. rw unread (omega arith);
      complete = λ source sound steady good.
          let followed : IsFollowed (lines_transcript command []).status =
          subst (λ (u : Transcript). IsFollowed u.status) same
          (script_followed command (source_left s) good) in
          completes status (lines_transcript command []).status e.status_is (λ is. steady (e.cause is)) followed;
    }

-- words that are not of the grammar
pub refusal_ended : (s : SourceState) (k0 k1 : SinkState) (l : MemoryState) (status : Status)
    → Finishes (codes "! words\n") NotOfGrammar k0 k1 status
    → RunsCommand None (streams s k0 l) (streams s k1 l) status
refusal_ended s k0 k1 l status f =
    let began : is_unbegun status ≡ false = begun status NotOfGrammar f.status_is in
    let ended : is_cut status ≡ false → status ≡ Ended NotOfGrammar = uncut status NotOfGrammar f.status_is in
    let all : IsTrue k0.tells → is_cut status ≡ false →
    Replays (only_text (codes "! words\n") (Ended NotOfGrammar)) l l status k0.sent k1.sent =
    λ sink is. rw (ended is, f.written sink (ended is))
    (text_alone l (codes "! words\n") (Ended NotOfGrammar) k0.sent) in
    record {
      source_keeps = source_same s;
      sink_keeps = f.keeps;
      whole = λ source sink is. all sink (whole_uncut status is);
      part = λ source sink is. f.part sink;
      read_fault = λ is. absurd (not_source_failed status began is);
      write_fault = f.fault;
      refused = λ none. or_cut status (Ended NotOfGrammar) f.status_is;
      refused_text = λ none sink is. f.written sink is;
      refused_part = λ none sink. f.part sink;
      unread = λ none. refl;
      scriptless = λ none sink is. all sink is;
      scriptless_part = λ none sink is. f.part sink;
      scriptless_status = λ none. or_cut status (Ended NotOfGrammar) f.status_is;
      kept = λ is. refl;
      silent = λ is. absurd (begun_not status began is);
      too_long = λ source is. absurd (not_too_long status began is);
      long = λ source reads long. absurd (cc);
      read = λ source is. omega arith;
      complete = λ source sound steady good. let some = good.words_are in absurd (cc);
    }
