-- The lines, one after the other.
use Rattle.std.proofs.Common.{◌≡◌, ℕ, ◌+◌, Bool, List, [], ◌∷◌, ◌++◌, length, drop, refl, ◌∙◌, ap, sym, subst, arith, append_assoc, Some, None}
use Rattle.std.proofs.lemmas.Grind.{common_steps}
use Rattle.kmip_link.specs.Plan.{MemoryState}
use Rattle.kmip_run.specs.Script.{lines_of}
use Rattle.kmip_words.specs.Calls.{call_of}
use Rattle.kmip_words.specs.Exchange.{Settings, Step, step, call_text}
use Rattle.kmip_run.specs.Transcript.{Transcript, only_text, end_after, bad_line, then_later, replay_from, RunsCall, Replays}
use Rattle.kmip_words.specs.declared.call.Call.{Call}
use Rattle.kmip_words.specs.declared.call.Recorded.{Recorded}
use Rattle.kmip_run.specs.declared.status.ScriptEnd.{ScriptEnd}
use Rattle.kmip_run.specs.declared.status.ScriptEnd.TheVariants.{NotOfGrammar}
use Rattle.kmip_run.specs.declared.status.Status.{Status}
use Rattle.kmip_run.specs.declared.status.Status.TheVariants.{Ended}

pub append_none : (xs : List ℕ) → xs ≡ xs ++ []
append_none xs = grind (arith, common_steps)

-- what was done, and what is still to come
pub record SoFar (all : Transcript) (before now : MemoryState) (old new : List ℕ) (rest : Transcript) : Type 0 where
  pub wrote : List ℕ
  pub fed : List ℕ
  pub sent : List ℕ
  pub taken : ℕ
  pub text : all.text ≡ wrote ++ rest.text
  pub status : all.status ≡ rest.status
  pub all_fed : all.fed ≡ fed ++ rest.fed
  pub all_sent : all.sent ≡ sent ++ rest.sent
  pub all_taken : all.taken ≡ taken + rest.taken
  pub new_is : new ≡ old ++ wrote
  pub ever : now.ever ≡ before.ever ++ fed
  pub sent_is : now.sent ≡ before.sent ++ sent
  pub pos : now.pos ≡ before.pos + taken

pub nothing_yet : (all : Transcript) (link : MemoryState) (old : List ℕ) → SoFar all link link old old all
nothing_yet all link old = record {
  wrote = [];
  fed = [];
  sent = [];
  taken = 0;
  text = refl;
  status = refl;
  all_fed =
      refl;
  all_sent = refl;
  all_taken = omega arith;
  new_is = append_none old;
  ever =
      append_none link.ever;
  sent_is = append_none link.sent;
  pos = omega arith;
}

-- one line more
pub one_more : {all : Transcript} {before now after : MemoryState} {old between new : List ℕ}
    {failed : Bool} (fed : List ℕ) (s : Step) (rest : Transcript) →
    SoFar all before now old between (then_later fed s rest)
    → RunsCall s fed now after failed between new → SoFar all before after old new rest
one_more {before = before} {now = now} {old = old} fed s rest so_far line = record {
  wrote = so_far.wrote ++ call_text s;
  fed = so_far.fed ++ fed;
  sent = so_far.sent ++ s.sent;
  taken = so_far.taken + s.taken;
  text = so_far.text ∙ sym (append_assoc so_far.wrote (call_text s) rest.text);
  status = so_far.status;
  all_fed = so_far.all_fed ∙ sym (append_assoc so_far.fed fed rest.fed);
  all_sent = so_far.all_sent ∙ sym (append_assoc so_far.sent s.sent rest.sent);
  all_taken = omega (arith, so_far.all_taken);
  new_is = line.text ∙ ap (λ (l : List ℕ). l ++ call_text s) so_far.new_is
      ∙ append_assoc old so_far.wrote (call_text s);
  ever = line.ever ∙ ap (λ (l : List ℕ). l ++ fed) so_far.ever ∙ append_assoc before.ever so_far.fed fed;
  sent_is = line.sent ∙ ap (λ (l : List ℕ). l ++ s.sent) so_far.sent_is ∙ append_assoc before.sent so_far.sent s.sent;
  pos = omega (arith, line.pos, so_far.pos);
}

pub replayed_call : (settings : Settings) (line : List ℕ) (lines : List (List ℕ))
    (number : ℕ) (end : ScriptEnd) (rest : List ℕ) (it : Recorded) → Some it ≡ call_of line →
    replay_from settings (line ∷ lines) number end rest ≡
    then_later it.response (step settings it.call (rest ++ it.response))
    (replay_from settings lines (number + 1)
    (end_after end (step settings it.call (rest ++ it.response)).failed)
    (drop (step settings it.call (rest ++ it.response)).taken (rest ++ it.response)))
unfolding replay_from
replayed_call settings line lines number end rest it is = rw (sym is, replay_from) refl

pub replayed_bad : (settings : Settings) (line : List ℕ) (lines : List (List ℕ)) (number : ℕ)
    (end : ScriptEnd) (rest : List ℕ) → None ≡ call_of line
    → replay_from settings (line ∷ lines) number end rest ≡ bad_line number
unfolding replay_from
replayed_bad settings line lines number end rest is = rw (sym is, replay_from) refl

pub replayed_none : (settings : Settings) (lines : List (List ℕ)) (number : ℕ) (end : ScriptEnd)
    (rest : List ℕ) → lines ≡ [] → replay_from settings lines number end rest
    ≡ only_text [] (Ended end)
unfolding replay_from
replayed_none settings lines number end rest is = rw is refl

-- nothing more is to come but this text
pub ended : {all : Transcript} {before now : MemoryState} {old between : List ℕ} (text : List ℕ) (status : Status) →
    SoFar all before now old between (only_text text status) → Replays all before now status old (between ++ text)
ended {before = before} {old = old} text status so_far = record {
  text = ap (λ (l : List ℕ). l ++ text) so_far.new_is ∙ append_assoc old so_far.wrote text
      ∙ ap (λ (l : List ℕ). old ++ l) (sym so_far.text);
  status_is = sym so_far.status;
  ever = so_far.ever ∙ ap (λ (l : List ℕ). before.ever ++ l) (append_none so_far.fed ∙ sym so_far.all_fed);
  sent = so_far.sent_is ∙ ap (λ (l : List ℕ). before.sent ++ l) (append_none so_far.sent ∙ sym so_far.all_sent);
  pos = omega (arith, so_far.pos, so_far.all_taken);
}

-- a call under the same settings
pub under : {before after : MemoryState} {failed : Bool} {old new : List ℕ} (a b : Settings)
    (call : Call) (fed rest : List ℕ) → a ≡ b
    → RunsCall (step a call rest) fed before after failed old new
    → RunsCall (step b call rest) fed before after failed old new
under {before = before} {after = after} {failed = failed} {old = old} {new = new} a b call fed rest same runs =
    subst (λ (s : Settings). RunsCall (step s call rest) fed before after failed old new) same runs

-- the next line is a call
pub next_call : {all : Transcript} {before now after : MemoryState} {old between new : List ℕ}
    {failed : Bool} (settings : Settings) (it : Recorded) (script line later : List ℕ)
    (number : ℕ) (end next : ScriptEnd) →
    lines_of script ≡ line ∷ lines_of later → Some it ≡ call_of line → next ≡ end_after end failed →
    SoFar all before now old between (replay_from settings (lines_of script) number end (drop now.pos now.ever)) →
    RunsCall (step settings it.call (drop now.pos now.ever ++ it.response)) it.response now after failed between new →
    SoFar all before after old new (replay_from settings (lines_of later) (number + 1) next (drop after.pos after.ever))
next_call {now = now} {failed = failed} settings it script line later number end next lines is next_is so_far runs =
    let here = rw (
      lines,
      replayed_call settings line (lines_of later) number end
          (drop now.pos now.ever) it is,
    ) at so_far in
    rw (next_is, runs.failed_is, runs.left)
    (one_more it.response (step settings it.call (drop now.pos now.ever ++ it.response))
    _ here runs)

-- the next line is not of the grammar
pub next_bad : {all : Transcript} {before now : MemoryState} {old between : List ℕ}
    (settings : Settings) (script line later : List ℕ) (number : ℕ) (end : ScriptEnd) →
    lines_of script ≡ line ∷ lines_of later → None ≡ call_of line →
    SoFar all before now old between (replay_from settings (lines_of script) number end (drop now.pos now.ever)) →
    Replays all before now (Ended NotOfGrammar) old (between ++ (bad_line number).text)
next_bad {now = now} settings script line later number end lines is so_far =
    ended (bad_line number).text (Ended NotOfGrammar)
    (rw (
      lines,
      replayed_bad settings line (lines_of later) number end
          (drop now.pos now.ever) is,
    ) at so_far)

pub no_lines : (script : List ℕ) → length script ≡ 0 → lines_of script ≡ []
no_lines [] none = refl
no_lines (c ∷ script) none = absurd (omega arith)

-- no line is left
pub no_more : {all : Transcript} {before now : MemoryState} {old between : List ℕ}
    (settings : Settings) (script : List ℕ) (number : ℕ) (end : ScriptEnd) → length script ≡ 0 →
    SoFar all before now old between
    (replay_from settings (lines_of script) number end (drop now.pos now.ever))
    → Replays all before now (Ended end) old between
no_more {now = now} {between = between} settings script number end none so_far =
    rw (append_none between) (ended [] (Ended end) (rw (replayed_none settings (lines_of script)
    number end (drop now.pos now.ever) (no_lines script none)) at so_far))
