-- Bytes that are one item as a whole.
use Rattle.std.proofs.Common.{◌≡◌, ◌≢◌, ℕ, ◌<◌, ◌≤◌, List, [], ◌++◌, length, take, drop, sym, ap, subst, ◌∙◌, arith}
use Rattle.std.proofs.Math.Seq.{take-length}
use Rattle.std.proofs.lemmas.List.{take-append-drop, length-drop}
use Rattle.kmip_wire.specs.Tree.{Tree}
use Rattle.kmip_wire.specs.Parses.{Parses, NoFront}

pub whole : (t : Tree) (n : ℕ) (b : List ℕ) → n ≡ length b → Parses t 1 (take n b) → Parses t 1 b
whole t n b e p = subst (λ (l : List ℕ). Parses t 1 l) (ap (λ k. take k b) e ∙ take-length b) p

-- no text that is an item begins another that is
pub longer : ((t u : Tree) (level other : ℕ) (b rest : List ℕ) → Parses t level b
    → Parses u other (b ++ rest) → rest ≡ []) → (t : Tree) (n : ℕ) (b : List ℕ) → n ≤ length b
    → n ≢ length b → Parses t 1 (take n b) → (u : Tree) → Parses u 1 b → ⊥
longer law t n b within other p u q =
    let rest = law t u 1 1 (take n b) (drop n b) p
    (subst (λ (l : List ℕ). Parses u 1 l) (sym (take-append-drop n b)) q) in
    other (omega (arith, ap length rest, length-drop n b))

pub no_item : (b : List ℕ) → NoFront 1 b → (u : Tree) → Parses u 1 b → ⊥
no_item b none u q = none (length b) (omega arith, (u, subst (λ (l : List ℕ). Parses u 1 l) (sym (take-length b)) q))
