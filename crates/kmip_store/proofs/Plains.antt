-- The plain maker's answers to one question more.
use Rattle.std.proofs.Common.{◌≡◌, ℕ, ◌+◌, List, [], ◌∷◌, ◌++◌, length, ◌∙◌, ap, arith}
use Rattle.kmip_store.specs.Plain.{plain_answer, plain_answers}
use Rattle.kmip_store.specs.declared.maker.Asked.{Asked}
use Rattle.kmip_store.specs.declared.maker.Made.{Made}

more_from : (n : ℕ) (asked : List Asked) (question : Asked) →
    plain_answers n (asked ++ question ∷ [])
    ≡ plain_answers n asked ++ plain_answer (n + length asked + 1) question ∷ []
more_from n [] question = ap (λ (k : ℕ). plain_answer k question ∷ []) (omega arith)
more_from n (first ∷ asked) question =
    ap (λ (l : List Made). plain_answer (n + 1) first ∷ l)
    (more_from (n + 1) asked question
    ∙ ap (λ (k : ℕ). plain_answers (n + 1) asked ++ plain_answer k question ∷ []) (omega arith))

pub one_more : (asked : List Asked) (question : Asked) →
    plain_answers 0 (asked ++ question ∷ [])
    ≡ plain_answers 0 asked ++ plain_answer (length asked + 1) question ∷ []
one_more asked question =
    more_from 0 asked question
    ∙ ap (λ (k : ℕ). plain_answers 0 asked ++ plain_answer k question ∷ []) (omega arith)

pub as_many : (n : ℕ) (asked : List Asked) → length (plain_answers n asked) ≡ length asked
as_many n [] = omega arith
as_many n (first ∷ asked) = let l = as_many (n + 1) asked in omega (arith, l)
