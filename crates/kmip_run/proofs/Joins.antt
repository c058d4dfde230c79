-- The lines of calls over a server in memory, one after the other.
use Rattle.std.proofs.Common.{◌≡◌, ℕ, ◌+◌, Bool, List, [], ◌∷◌, ◌++◌, length, refl, sym, Some, None}
use Rattle.kmip_run.specs.Script.{lines_of}
use Rattle.kmip_words.specs.Exchange.{Settings, call_text}
use Rattle.kmip_words.specs.declared.call.Call.{Call}
use Rattle.kmip_joined.specs.Lines.{helper_call}
use Rattle.kmip_joined.specs.World.{World, Joined, joined_step}
use Rattle.kmip_joined.specs.Reports.{Runs}
use Rattle.kmip_run.specs.Transcript.{Transcript, only_text, bad_line, then_text, end_after, joined}
use Rattle.kmip_run.specs.declared.status.ScriptEnd.{ScriptEnd}
use Rattle.kmip_run.specs.declared.status.Status.TheVariants.{Ended}
use Rattle.kmip_run.proofs.Runs.{no_lines}
use Rattle.kmip_run.proofs.Explained.{SoFar, one_more, ended}

-- after a call
abbrev then_joined : Settings → List (List ℕ) → ℕ → ScriptEnd → Joined → Transcript
then_joined settings lines number end it =
    then_text (call_text it.step)
    (joined settings lines (number + 1) (end_after end it.step.failed) it.after)

pub joined_call : (settings : Settings) (line : List ℕ) (lines : List (List ℕ)) (number : ℕ) (end : ScriptEnd)
    (world : World) (call : Call) → Some call ≡ helper_call line →
    joined settings (line ∷ lines) number end world
    ≡ then_joined settings lines number end (joined_step settings call world)
unfolding joined
joined_call settings line lines number end world call is = rw (sym is, joined) refl

pub joined_bad : (settings : Settings) (line : List ℕ) (lines : List (List ℕ)) (number : ℕ) (end : ScriptEnd)
    (world : World) → None ≡ helper_call line
    → joined settings (line ∷ lines) number end world ≡ bad_line number
unfolding joined
joined_bad settings line lines number end world is = rw (sym is, joined) refl

pub joined_none : (settings : Settings) (lines : List (List ℕ)) (number : ℕ) (end : ScriptEnd) (world : World)
    → lines ≡ [] → joined settings lines number end world ≡ only_text [] (Ended end)
unfolding joined
joined_none settings lines number end world is = rw is refl

-- nothing is on the link
pub joined_alone : (settings : Settings) (lines : List (List ℕ)) (number : ℕ) (end : ScriptEnd) (world : World) →
    joined settings lines number end world
    ≡ only_text (joined settings lines number end world).text
    (joined settings lines number end world).status
joined_alone settings [] number end world = rw (joined_none settings [] number end world refl) refl
joined_alone settings (line ∷ lines) number end world =
    elim (helper_call line) as (λ o. helper_call line ≡ o → joined settings (line ∷ lines)
    number end world ≡ only_text (joined settings (line ∷ lines) number end world).text
    (joined settings (line ∷ lines) number end world).status) [
      | None ↦ λ e. rw (joined_bad settings line lines number end world (sym e)) refl
      | Some call ↦ λ e. rw (joined_call settings line lines number end world call (sym e)) refl
    ] refl

-- the next line is a call
pub next_call : {all : Transcript} {old now new : List ℕ} {failed : Bool} (settings : Settings)
    (call : Call) (script line later : List ℕ) (number : ℕ) (end next : ScriptEnd) (world after : World) →
    lines_of script ≡ line ∷ lines_of later → Some call ≡ helper_call line → next ≡ end_after end failed →
    SoFar all old now (joined settings (lines_of script) number end world)
    → Runs (joined_step settings call world) after failed now new →
    SoFar all old new (joined settings (lines_of later) (number + 1) next after)
next_call {failed = failed}
    settings call script line later number end next world after lines is next_is so_far runs =
    let here = rw (lines, joined_call settings line (lines_of later) number end world call is) at so_far in
    rw (next_is, runs.failed_is, runs.world, runs.text)
    (one_more (call_text (joined_step settings call world).step) _ here)

-- the next line is not of the grammar
pub next_bad : {all : Transcript} {old now : List ℕ} (settings : Settings)
    (script line later : List ℕ) (number : ℕ) (end : ScriptEnd) (world : World)
    → lines_of script ≡ line ∷ lines_of later → None ≡ helper_call line →
    SoFar all old now (joined settings (lines_of script) number end world) → SoFar all old now (bad_line number)
next_bad settings script line later number end world lines is so_far =
    rw (lines, joined_bad settings line (lines_of later) number end world is) at so_far

-- no line is left
pub no_more : {all : Transcript} {old now : List ℕ} (settings : Settings) (script : List ℕ)
    (number : ℕ) (end : ScriptEnd) (world : World) → length script ≡ 0 →
    SoFar all old now (joined settings (lines_of script) number end world)
    → (old ++ all.text ≡ now) × (all.status ≡ Ended end)
no_more settings script number end world none so_far =
    ended (rw (joined_none settings (lines_of script) number end world (no_lines script none))
    at so_far)
