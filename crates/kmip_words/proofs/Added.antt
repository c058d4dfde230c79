-- Texts that were added one after another.
use Rattle.std.proofs.Common.{◌≡◌, ℕ, List, ◌++◌, Result, Ok, Err, OnOk, is_ok, if◌then◌else◌, ◌∙◌, ap, append_assoc}

pub three_added : {E : Type 0} (result : Result (Unit {0}) E) (old first second new a b c : List ℕ)
    → first ≡ old ++ a → second ≡ first ++ b → OnOk result (new ≡ second ++ c)
    → OnOk result (new ≡ old ++ (a ++ (b ++ c)))
three_added (Ok u) old first second new a b c p q r =
    r ∙ ap (λ (l : List ℕ). l ++ c) (q ∙ ap (λ (l : List ℕ). l ++ b) p) ∙ simp append_assoc
three_added (Err error) old first second new a b c p q r = tt

-- what was added where there was memory
pub when_added : {E : Type 0} (result : Result (Unit {0}) E) (new added old : List ℕ)
    → new ≡ (if is_ok result then added else old) → OnOk result (new ≡ added)
when_added (Ok u) new added old is = is
when_added (Err error) new added old is = tt

pub two_added : {E : Type 0} (result : Result (Unit {0}) E) (old first new a b : List ℕ)
    → first ≡ old ++ a → OnOk result (new ≡ first ++ b) → OnOk result (new ≡ old ++ (a ++ b))
two_added (Ok u) old first new a b p q = q ∙ ap (λ (l : List ℕ). l ++ b) p ∙ append_assoc old a b
two_added (Err error) old first new a b p q = tt
