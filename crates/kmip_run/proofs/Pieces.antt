-- Text that is written while it is made.
use Rattle.std.proofs.Common.{◌≡◌, ℕ, ◌+◌, ◌≤◌, Bool, List, [], ◌∷◌, ◌++◌, length, take, drop, refl, ◌∙◌, ap, sym, subst, arith, append_assoc, Some, None, Ok, Err, IsTrue, length-append}
use Rattle.std.proofs.lemmas.List.{take-append-le}
use Rattle.std.proofs.Math.Seq.{take-append-add}
use Rattle.kmip_link.specs.Plan.{MemoryState}
use Rattle.kmip_link.specs.State.{SinkState, SinkKeeps, FaultCountRose}
use Rattle.kmip_words.specs.Streams.{WrotePart}
use Rattle.kmip_words.specs.Exchange.{Settings, Step, step, call_text}
use Rattle.kmip_words.specs.declared.call.Recorded.{Recorded}
use Rattle.kmip_words.specs.Calls.{call_of}
use Rattle.kmip_words.proofs.Moves.{sink_keeps_on}
use Rattle.kmip_run.specs.Script.{lines_of}
use Rattle.kmip_run.specs.Transcript.{Transcript, end_after, bad_line, replay_from, RunsCall, Replays}
use Rattle.kmip_run.specs.Performed.{Moves, Performs}
use Rattle.kmip_run.specs.declared.output.Cut.{Cut}
use Rattle.kmip_run.specs.declared.output.Cut.TheVariants as cuts
use Rattle.kmip_run.specs.declared.status.ScriptEnd.{ScriptEnd}
use Rattle.kmip_run.specs.declared.status.ScriptEnd.TheVariants.{NotOfGrammar}
use Rattle.kmip_run.specs.declared.status.Status.TheVariants.{Ended}
use Rattle.kmip_run.proofs.Runs.{append_none, SoFar, nothing_yet, next_call, next_bad, no_more}

pub sink_same : (sink : SinkState) → SinkKeeps sink sink
sink_same sink = record { tells = refl; faults = omega arith }

pub none_moved : (k : SinkState) (kept : List ℕ) → Moves k k kept kept
none_moved k kept = record { written = []; parts = refl; sent = λ tells. append_none k.sent }

-- all of it is written
pub all_moved : (k k1 : SinkState) (kept left : List ℕ) → left ≡ [] → (IsTrue k.tells → k1.sent ≡ k.sent ++ kept)
    → Moves k k1 kept left
all_moved k k1 kept left none sent = record { written = kept; parts = rw none (append_none kept); sent = sent }

-- a part of what was kept is written
pub moves_on : {k0 k k1 : SinkState} {text kept left : List ℕ} → Moves k0 k text kept → SinkKeeps k0 k
    → Moves k k1 kept left → Moves k0 k1 text left
moves_on {k0 = k0} {left = left} a keeps b = record {
  written = a.written ++ b.written;
  parts = a.parts ∙ ap (λ (l : List ℕ). a.written ++ l) b.parts ∙ sym (append_assoc a.written b.written left);
  sent = λ tells.
      b.sent (rw keeps.tells tells) ∙ ap (λ (l : List ℕ). l ++ b.written) (a.sent tells)
      ∙ append_assoc k0.sent a.written b.written;
}

-- more is kept, to be written later
more_kept : {k0 k : SinkState} {text kept : List ℕ} (more : List ℕ) → Moves k0 k text kept
    → Moves k0 k (text ++ more) (kept ++ more)
more_kept {kept = kept} more m = record {
  written = m.written;
  parts = ap (λ (l : List ℕ). l ++ more) m.parts ∙ append_assoc m.written kept more;
  sent = m.sent;
}

-- of what was kept a part is written
pub part_moved : {k0 k : SinkState} {text kept : List ℕ} (k1 : SinkState) → Moves k0 k text kept → IsTrue k0.tells
    → WrotePart k k1 kept → WrotePart k0 k1 text
part_moved {k0 = k0} {kept = kept} k1 m tells part = (
  length m.written + part.0,
  omega (arith, part.1, ap length m.parts, length-append m.written kept),
  part.2 ∙ ap (λ (l : List ℕ). l ++ take part.0 kept) (m.sent tells)
      ∙ append_assoc k0.sent m.written (take part.0 kept)
      ∙ ap (λ (l : List ℕ). k0.sent ++ l)
      (sym (ap (take (length m.written + part.0)) m.parts ∙ take-append-add m.written kept part.0)),
)

-- a part of a text is one of a longer text
part_longer : (k0 k1 : SinkState) (text more : List ℕ) → WrotePart k0 k1 text → WrotePart k0 k1 (text ++ more)
part_longer k0 k1 text more part = (
  part.0,
  omega (arith, part.1, length-append text more),
  part.2 ∙ ap (λ (l : List ℕ). k0.sent ++ l) (sym (take-append-le part.0 text more part.1)),
)

-- What is shown so far behind a text: a first part of both is written, and the rest is kept.
pub record Shows (all : Transcript) (l0 l : MemoryState) (k0 k : SinkState) (old kept : List ℕ)
    (rest : Transcript) : Type 0 where
  pub shown : List ℕ
  pub so_far : SoFar all l0 l old shown rest
  pub keeps : SinkKeeps k0 k
  pub moved : Moves k0 k shown kept

pub nothing_shown : (all : Transcript) (link : MemoryState) (sink : SinkState) (old : List ℕ)
    → Shows all link link sink sink old old all
nothing_shown all link sink old = record {
  shown = old;
  so_far = nothing_yet all link old;
  keeps = sink_same sink;
  moved = none_moved sink old;
}

-- a call that is shown behind another text
behind : {s : Step} {fed : List ℕ} {before after : MemoryState} {failed : Bool} {old new : List ℕ} (text : List ℕ)
    → RunsCall s fed before after failed old new → RunsCall s fed before after failed text (text ++ call_text s)
behind text runs = record {
  text = refl;
  failed_is = runs.failed_is;
  ever = runs.ever;
  sent = runs.sent;
  pos = runs.pos;
  left = runs.left;
}

-- the next line is a call
pub call_shown : {all : Transcript} {l0 now after : MemoryState} {k0 k : SinkState} {old kept new : List ℕ}
    {failed : Bool} (settings : Settings) (it : Recorded) (script line later : List ℕ)
    (number : ℕ) (end next : ScriptEnd) →
    lines_of script ≡ line ∷ lines_of later → Some it ≡ call_of line → next ≡ end_after end failed →
    Shows all l0 now k0 k old kept (replay_from settings (lines_of script) number end (drop now.pos now.ever)) →
    RunsCall (step settings it.call (drop now.pos now.ever ++ it.response)) it.response now after failed kept new →
    Shows all l0 after k0 k old new (replay_from settings (lines_of later) (number + 1) next (drop after.pos after.ever))
call_shown {now = now} {k0 = k0} {k = k} settings it script line later number end next lines is next_is s runs =
    let told : List ℕ = call_text (step settings it.call (drop now.pos now.ever ++ it.response)) in
    record {
      shown = s.shown ++ told;
      so_far = next_call settings it script line later number end next lines is next_is s.so_far (behind s.shown runs);
      keeps = s.keeps;
      moved = subst (λ (l : List ℕ). Moves k0 k (s.shown ++ told) l) (sym runs.text) (more_kept told s.moved);
    }

-- a part of what was kept is written
pub moved_on : {all : Transcript} {l0 l : MemoryState} {k0 k k1 : SinkState} {old kept left : List ℕ} {rest : Transcript}
    → Shows all l0 l k0 k old kept rest → SinkKeeps k k1 → Moves k k1 kept left → Shows all l0 l k0 k1 old left rest
moved_on s keeps moves = record {
  shown = s.shown;
  so_far = s.so_far;
  keeps = sink_keeps_on s.keeps keeps;
  moved = moves_on s.moved s.keeps moves;
}

-- the command came to its end
pub performed : {all : Transcript} {l0 l : MemoryState} {k0 k : SinkState} {old shown kept : List ℕ} (end : ScriptEnd)
    → Replays all l0 l (Ended end) old shown → SinkKeeps k0 k → Moves k0 k shown kept
    → Performs all k0 k l0 l old kept (Ok end)
performed {k0 = k0} {k = k} {kept = kept} end did keeps moved = record {
  keeps = keeps;
  done = record { text = refl; status_is = did.status_is; ever = did.ever; sent = did.sent; pos = did.pos };
  moved = subst (λ (l : List ℕ). Moves k0 k l kept) did.text moved;
  part = tt;
  cause = λ is. absurd (cc);
}

-- the count of faults did not fall before it rose
pub rose_on : (a b c : ℕ) → a ≤ b → FaultCountRose b c → FaultCountRose a c
rose_on a b c within rose = omega arith

-- the next line is not of the grammar
pub bad_performed : {all : Transcript} {l0 now : MemoryState} {k0 k : SinkState} {old kept : List ℕ}
    (settings : Settings) (script line later : List ℕ) (number : ℕ) (end : ScriptEnd) →
    lines_of script ≡ line ∷ lines_of later → None ≡ call_of line →
    Shows all l0 now k0 k old kept (replay_from settings (lines_of script) number end (drop now.pos now.ever)) →
    Performs all k0 k l0 now old (kept ++ (bad_line number).text) (Ok NotOfGrammar)
bad_performed settings script line later number end lines is s =
    performed NotOfGrammar (next_bad settings script line later number end lines is s.so_far) s.keeps
    (more_kept (bad_line number).text s.moved)

-- no line is left
pub none_performed : {all : Transcript} {l0 now : MemoryState} {k0 k : SinkState} {old kept : List ℕ}
    (settings : Settings) (script : List ℕ) (number : ℕ) (end : ScriptEnd) → length script ≡ 0 →
    Shows all l0 now k0 k old kept (replay_from settings (lines_of script) number end (drop now.pos now.ever))
    → Performs all k0 k l0 now old kept (Ok end)
none_performed settings script number end none s =
    performed end (no_more settings script number end none s.so_far) s.keeps s.moved

-- the command was broken off, after this part of its text was written
broken : {all : Transcript} {l0 l : MemoryState} {k0 k : SinkState} {old new : List ℕ} (cause : Cut)
    → SinkKeeps k0 k → (IsTrue k0.tells → WrotePart k0 k (old ++ all.text))
    → (cause ≡ cuts.SinkFailed → FaultCountRose k0.faults k.faults) → Performs all k0 k l0 l old new (Err cause)
broken cause keeps part rose = record {
  keeps = keeps;
  done = tt;
  moved = tt;
  part = part;
  cause = λ is. rose (cc);
}

-- memory ran out before anything was written
pub unwritten : {all : Transcript} {l0 l : MemoryState} {k : SinkState} {old new : List ℕ} (cause : Cut)
    → cause ≡ cuts.OutOfMemory → Performs all k k l0 l old new (Err cause)
unwritten {k = k} cause is =
    broken cause (sink_same k) (λ tells. (0, omega arith, append_none k.sent)) (λ failed. absurd (cc))

-- a part of what is kept was written, and then the sink failed, or memory ran out
pub cut_off : {all : Transcript} {l0 l l1 : MemoryState} {k0 k k1 : SinkState} {old kept new : List ℕ} {rest : Transcript}
    (cause : Cut) → Shows all l0 l k0 k old kept rest → SinkKeeps k k1 → (IsTrue k.tells → WrotePart k k1 kept)
    → (cause ≡ cuts.SinkFailed → FaultCountRose k.faults k1.faults) → Performs all k0 k1 l0 l1 old new (Err cause)
cut_off {all = all} {k0 = k0} {k = k} {k1 = k1} {old = old} {rest = rest} cause s keeps part rose =
    let so = s.so_far in
    let whole : old ++ all.text ≡ s.shown ++ rest.text =
    ap (λ (l : List ℕ). old ++ l) so.text ∙ sym (append_assoc old so.wrote rest.text)
    ∙ ap (λ (l : List ℕ). l ++ rest.text) (sym so.new_is) in
    broken cause (sink_keeps_on s.keeps keeps)
    (λ tells. subst (WrotePart k0 k1) (sym whole)
    (part_longer k0 k1 s.shown rest.text (part_moved k1 s.moved tells (part (rw s.keeps.tells tells)))))
    (λ is. rose_on k0.faults k.faults k1.faults s.keeps.faults (rose is))

-- memory ran out
pub ran_out : {all : Transcript} {l0 l l1 : MemoryState} {k0 k : SinkState} {old kept new : List ℕ} {rest : Transcript}
    (cause : Cut) → cause ≡ cuts.OutOfMemory → Shows all l0 l k0 k old kept rest
    → Performs all k0 k l0 l1 old new (Err cause)
ran_out {k = k} cause is s =
    cut_off cause s (sink_same k) (λ tells. (0, omega arith, append_none k.sent)) (λ failed. absurd (cc))
