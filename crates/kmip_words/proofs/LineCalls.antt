-- The call of a line.
use Rattle.std.proofs.Common.{◌≡◌, ◌≢◌, ℕ, List, [], ◌∷◌, length, map, None, refl, Bor}
use Rattle.std.specs.Str.{IsUtf8}
use Rattle.std.proofs.lemmas.Str.{is_utf8-from_IsUtf8}
use Rattle.kmip_request_words.specs.Words.{words_of}
pub use Rattle.kmip_request_words.proofs.Utf8.{not_utf8}
use Rattle.std.specs.Option.{option_and_then}
use Rattle.kmip_words.specs.Calls.{call_from, call_of, recorded_of, call_in, call_alone}

pub call_of_utf8 : (line : List ℕ) → IsUtf8 line → call_of line ≡ call_from (words_of line)
unfolding call_of
call_of_utf8 line utf8 = rw (is_utf8-from_IsUtf8 line utf8) refl

pub call_of_other : (line : List ℕ) → (IsUtf8 line → ⊥) → call_of line ≡ None
unfolding call_of
call_of_other line not = rw (not_utf8 line not) refl

pub call_alone_utf8 : (line : List ℕ) → IsUtf8 line → call_alone line ≡ option_and_then call_in (words_of line)
unfolding call_alone
call_alone_utf8 line utf8 = rw (is_utf8-from_IsUtf8 line utf8) refl

pub call_alone_other : (line : List ℕ) → (IsUtf8 line → ⊥) → call_alone line ≡ None
unfolding call_alone
call_alone_other line not = rw (not_utf8 line not) refl

-- there is no call of fewer words than two, or of more than five
pub no_call : (words : List (Bor (List ℕ))) → length words ≢ 2 → length words ≢ 3 → length words ≢ 4
    → length words ≢ 5 → recorded_of (map (λ word. word.now) words) ≡ None
no_call [] not2 not3 not4 not5 = refl
no_call (a ∷ []) not2 not3 not4 not5 = refl
no_call (a ∷ b ∷ []) not2 not3 not4 not5 = absurd (not2 refl)
no_call (a ∷ b ∷ c ∷ []) not2 not3 not4 not5 = absurd (not3 refl)
no_call (a ∷ b ∷ c ∷ d ∷ []) not2 not3 not4 not5 = absurd (not4 refl)
no_call (a ∷ b ∷ c ∷ d ∷ e ∷ []) not2 not3 not4 not5 = absurd (not5 refl)
no_call (a ∷ b ∷ c ∷ d ∷ e ∷ f ∷ words) not2 not3 not4 not5 = refl
