-- The word of an option: what stands before its first `=`, and behind.
use Rattle.std.proofs.Common.{◌≡◌, ℕ, ◌+◌, ◌<◌, Bor, Option, Some, None, Result, Ok, Err, OnOk, Bool, true, false, cond, eqb, List, [], ◌∷◌, ◌++◌, ◌||◌, length, codes, append_assoc, refl, sym, ap, ◌∙◌, arith, ◌==◌}
use Rattle.std.specs.List.{list_any, position_or_len, before_first, after_first}
use Rattle.std.proofs.lemmas.Str.Pattern.{IsSplitOnceResult, split_once_first}
use Rattle.kmip_calls.specs.Written.{is_equals, text_word, option_word}

has : (text : List ℕ) → position_or_len is_equals text < length text →
    list_any is_equals text ≡ true
has [] h = absurd (omega (arith, h))
has (c ∷ text) h = by (eqb c 61) refl (has text)
  where
    by : (t : Bool) → eqb c 61 ≡ t →
        (position_or_len is_equals text < length text → list_any is_equals text ≡ true) →
        (t || list_any is_equals text) ≡ true
    by true e later = refl
    by false e later = let h' = rw e at h in later (omega (arith, h'))

has_none : (text : List ℕ) → position_or_len is_equals text ≡ length text →
    list_any is_equals text ≡ false
has_none [] h = refl
has_none (c ∷ text) h = by (eqb c 61) refl (has_none text)
  where
    by : (t : Bool) → eqb c 61 ≡ t →
        (position_or_len is_equals text ≡ length text → list_any is_equals text ≡ false) →
        (t || list_any is_equals text) ≡ false
    by true e later = let h' = rw e at h in absurd (omega (arith, h'))
    by false e later = let h' = rw e at h in later (omega (arith, h'))

with_value : (text name value : List ℕ) → position_or_len is_equals text < length text →
    name ≡ before_first is_equals text → value ≡ after_first is_equals text →
    option_word text ≡ name ++ 61 ∷ text_word value
unfolding option_word
with_value text name value inside front back =
    rw (has text inside, front, back) refl

without_value : (text : List ℕ) → position_or_len is_equals text ≡ length text →
    option_word text ≡ text_word text
unfolding option_word
without_value text none = rw (has_none text none) refl

pub cut : (text : List ℕ) (x : Bor (List ℕ) × Bor (List ℕ)) → IsSplitOnceResult 61 text (Some x) →
    option_word text ≡ x.0.now ++ 61 ∷ text_word x.1.now
cut text x split =
    let (inside, front, back) = split_once_first 61 text (Some x) split (omega arith) in
    with_value text x.0.now x.1.now inside front back

pub uncut : (text : List ℕ) → IsSplitOnceResult 61 text None → option_word text ≡ text_word text
uncut text split = without_value text (split_once_first 61 text None split (omega arith))

pub option_added : {U E : Type 0} (result : Result U E)
    (new old front behind text name value : List ℕ) →
    OnOk result (new ≡ behind ++ text_word value) → behind ≡ front ++ codes "=" →
    front ≡ old ++ name → option_word text ≡ name ++ 61 ∷ text_word value →
    OnOk result (new ≡ old ++ option_word text)
option_added (Ok u) new old front behind text name value is b f o =
    is ∙ ap (λ x. x ++ text_word value) (b ∙ ap (λ x. x ++ codes "=") f)
    ∙ append_assoc (old ++ name) (codes "=") (text_word value)
    ∙ append_assoc old name (61 ∷ text_word value) ∙ ap (λ x. old ++ x) (sym o)
option_added (Err error) new old front behind text name value is b f o = tt

pub whole_added : {U E : Type 0} (result : Result U E) (new old text : List ℕ) →
    OnOk result (new ≡ old ++ text_word text) → option_word text ≡ text_word text →
    OnOk result (new ≡ old ++ option_word text)
whole_added (Ok u) new old text is e = is ∙ ap (λ x. old ++ x) (sym e)
whole_added (Err error) new old text is e = tt
