-- One zero more.
use Rattle.std.proofs.Common.{◌≡◌, ℕ, ◌+◌, ◌-◌, ◌≢◌, List, [], ◌∷◌, ◌++◌, replicate, ap, ◌∙◌, arith, append_assoc}
use Rattle.std.proofs.lemmas.List.{replicate-append-replicate}

pub one_more : (xs : List ℕ) (n : ℕ) → n ≢ 0 → (xs ++ 0 ∷ []) ++ replicate (n - 1) 0 ≡ xs ++ replicate n 0
one_more xs n h =
    let whole : 1 + (n - 1) ≡ n = omega (arith, h) in
    append_assoc xs (0 ∷ []) (replicate (n - 1) 0)
    ∙ ap (λ zs. xs ++ zs) (replicate-append-replicate 1 (n - 1) 0 ∙ ap (λ k. replicate k 0) whole)
