-- The streams of a script.
use Rattle.std.proofs.Common.{◌≡◌, ℕ, ◌<◌, List, [], ◌∷◌, length, refl, ◌∙◌, ap, sym, arith, Bool, true, false, cond, Some, None}
use Rattle.std.specs.Prelude.{◌==◌}
use Rattle.std.specs.List.{onto_first}
use Rattle.std.specs.Str.{IsUtf8}
use Rattle.std.proofs.lemmas.Str.{is_utf8-from_IsUtf8}
use Rattle.kmip_words.specs.Values.{bytes_of}
use Rattle.kmip_run.specs.Script.{lines_of}
use Rattle.kmip_run.specs.Auditing.{stream_of, next_stream, both_streams, after_sent, from_first, captured_in}
use Rattle.kmip_run.specs.declared.auditing.Captured.TheVariants.{Bad}
use Rattle.kmip_words.proofs.LineCalls.{not_utf8}

pub stream_utf8 : (line : List ℕ) → IsUtf8 line → stream_of line ≡ bytes_of line
unfolding stream_of
stream_utf8 line utf8 = rw (is_utf8-from_IsUtf8 line utf8) refl

pub stream_other : (line : List ℕ) → (IsUtf8 line → ⊥) → stream_of line ≡ None
unfolding stream_of
stream_other line not = rw (not_utf8 line not) refl

-- a script that is not empty has a line
third : (sent received script : List ℕ) → 0 < length script → both_streams sent received (lines_of script) ≡ Bad 3
third sent received [] more = absurd (omega arith)
third sent received (c ∷ script) more = go (c == 10) (lines_of script)
  where
    go : (b : Bool) (lines : List (List ℕ))
        → both_streams sent received (cond b ([] ∷ lines) (onto_first c lines)) ≡ Bad 3
    go true lines = refl
    go false [] = refl
    go false (line ∷ lines) = refl

-- two streams, and a third line
pub third_line : (lines : List (List ℕ)) (sent received after rest : List ℕ)
    → Some (sent, lines_of after) ≡ next_stream lines
    → Some (received, lines_of rest) ≡ next_stream (lines_of after) → 0 < length rest
    → Bad 3 ≡ captured_in lines
third_line lines sent received after rest first second more =
    sym (ap from_first (sym first) ∙ ap (after_sent sent) (sym second) ∙ third sent received rest more)
