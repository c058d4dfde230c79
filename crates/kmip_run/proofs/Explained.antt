-- The lines of diagnostics, one after the other.
use Rattle.std.proofs.Common.{◌≡◌, ℕ, ◌+◌, List, [], ◌∷◌, ◌++◌, length, refl, ◌∙◌, sym, append_assoc, Some, None}
use Rattle.std.specs.Str.{IsUtf8}
use Rattle.std.proofs.lemmas.Str.{is_utf8-from_IsUtf8}
use Rattle.kmip_diag.specs.Expansion.{expansion}
use Rattle.kmip_run.specs.Script.{lines_of}
use Rattle.kmip_run.specs.Transcript.{Transcript, only_text, bad_line, then_text, line_expansion, explanations_from}
use Rattle.kmip_run.specs.declared.status.ScriptEnd.TheVariants.{Answered}
use Rattle.kmip_run.specs.declared.status.Status.{Status}
use Rattle.kmip_run.specs.declared.status.Status.TheVariants.{Ended}
use Rattle.kmip_words.proofs.LineCalls.{not_utf8}
use Rattle.kmip_run.proofs.Runs.{append_none, no_lines}

pub expanded_utf8 : (line : List ℕ) → IsUtf8 line → line_expansion line ≡ expansion (Some 0x4200) line
unfolding line_expansion
expanded_utf8 line utf8 = rw (is_utf8-from_IsUtf8 line utf8) refl

pub expanded_other : (line : List ℕ) → (IsUtf8 line → ⊥) → line_expansion line ≡ None
unfolding line_expansion
expanded_other line not = rw (not_utf8 line not) refl

pub explained_line : (line : List ℕ) (lines : List (List ℕ)) (number : ℕ) (text : List ℕ)
    → Some text ≡ line_expansion line → explanations_from (line ∷ lines) number
    ≡ then_text text (explanations_from lines (number + 1))
unfolding explanations_from
explained_line line lines number text is = rw (sym is, explanations_from) refl

pub explained_bad : (line : List ℕ) (lines : List (List ℕ)) (number : ℕ)
    → None ≡ line_expansion line → explanations_from (line ∷ lines) number ≡ bad_line number
unfolding explanations_from
explained_bad line lines number is = rw (sym is, explanations_from) refl

pub explained_none : (lines : List (List ℕ)) (number : ℕ) → lines ≡ [] → explanations_from lines number ≡ only_text [] (Ended Answered)
unfolding explanations_from
explained_none lines number is = rw is refl

-- nothing is on the link
pub explained_alone : (lines : List (List ℕ)) (number : ℕ)
    → explanations_from lines number ≡ only_text (explanations_from lines number).text
    (explanations_from lines number).status
explained_alone [] number = rw (explained_none [] number refl) refl
explained_alone (line ∷ lines) number =
    elim (line_expansion line) as (λ o. line_expansion line ≡ o → explanations_from (line ∷ lines)
    number ≡ only_text (explanations_from (line ∷ lines) number).text
    (explanations_from (line ∷ lines) number).status) [
      | None ↦ λ e. rw (explained_bad line lines number (sym e)) refl
      | Some text ↦ λ e. rw (explained_line line lines number text (sym e)) refl
    ] refl

-- what was written so far, and what the lines left add
pub record SoFar (all : Transcript) (old now : List ℕ) (rest : Transcript) : Type 0 where
  pub text : old ++ all.text ≡ now ++ rest.text
  pub status : all.status ≡ rest.status

pub nothing_yet : (all : Transcript) (old : List ℕ) → SoFar all old old all
nothing_yet all old = record { text = refl; status = refl }

pub one_more : {all : Transcript} {old now : List ℕ} (text : List ℕ) (later : Transcript)
    → SoFar all old now (then_text text later) → SoFar all old (now ++ text) later
one_more {now = now} text later so_far =
    record { text = so_far.text ∙ sym (append_assoc now text later.text); status = so_far.status }

-- the next line is a diagnostic
pub next_line : {all : Transcript} {old now : List ℕ} (script line later : List ℕ) (number : ℕ)
    (text : List ℕ) → lines_of script ≡ line ∷ lines_of later → Some text ≡ line_expansion line →
    SoFar all old now (explanations_from (lines_of script) number)
    → SoFar all old (now ++ text) (explanations_from (lines_of later) (number + 1))
next_line script line later number text lines is so_far =
    one_more text (explanations_from (lines_of later) (number + 1))
    (rw (lines, explained_line line (lines_of later) number text is) at so_far)

-- the next line is no diagnostic
pub next_bad : {all : Transcript} {old now : List ℕ} (script line later : List ℕ) (number : ℕ)
    → lines_of script ≡ line ∷ lines_of later → None ≡ line_expansion line →
    SoFar all old now (explanations_from (lines_of script) number) → SoFar all old now (bad_line number)
next_bad script line later number lines is so_far = rw (lines, explained_bad line (lines_of later) number is) at so_far

pub ended : {all : Transcript} {old now : List ℕ} {status : Status}
    → SoFar all old now (only_text [] status) → (old ++ all.text ≡ now) × (all.status ≡ status)
ended {now = now} so_far = (so_far.text ∙ sym (append_none now), so_far.status)

-- no line is left
pub no_more : {all : Transcript} {old now : List ℕ} (script : List ℕ) (number : ℕ)
    → length script ≡ 0 → SoFar all old now (explanations_from (lines_of script) number)
    → (old ++ all.text ≡ now) × (all.status ≡ Ended Answered)
no_more script number none so_far =
    ended (rw (explained_none (lines_of script) number (no_lines script none)) at so_far)
