-- Bytes show one thing, and an item shows itself.
use Rattle.std.proofs.Common.{◌≡◌, refl, sym, ◌∙◌, ap, subst, arith, ℕ, ◌+◌, ◌≤◌, false, List, [], length, take, drop, Option}
use Rattle.std.proofs.lemmas.List.{append-nil}
use Rattle.std.proofs.Math.Seq.{take-length, drop-length}
use Rattle.kmip_wire.specs.Tree.{Tree}
use Rattle.kmip_wire.specs.Head.{value_of}
use Rattle.kmip_wire.specs.Parses.{Parses}
use Rattle.kmip_wire.proofs.Computed.{one_tree}
use Rattle.kmip_diag.specs.Skeleton.{skeleton}
use Rattle.kmip_diag.specs.Printed.{printed}
use Rattle.kmip_diag.specs.Diagnostic.{Shown, ended, stopped, item, cut_off, Shows, shown_text, IsDiagnostic, diagnostic}
use Rattle.kmip_diag.proofs.Wire.{front_size}
use Rattle.kmip_diag.proofs.Showing.{is_diagnostic}

no_front_empty : (level : ℕ) (b : List ℕ) (n : ℕ) (t : Tree) → b ≡ [] → n ≤ length b → Parses t level (take n b) → ⊥
no_front_empty level b n t e le q = omega (arith, le, ap length e, front_size level b n (le, (t, q)))

one_shown : (s r : Shown) (level : ℕ) (b : List ℕ) → Shows s level b → Shows r level b → s ≡ r
one_shown ended ended level b h g = refl
one_shown ended stopped level b h g = absurd (omega (arith, ap length h, g.0))
one_shown ended (item t r) level b h (n, le, q, g) = absurd (no_front_empty level b n t h le q)
one_shown ended (cut_off tag r) level b h g = absurd (omega (arith, ap length h, g.1.1))
one_shown stopped ended level b h g = absurd (omega (arith, ap length g, h.0))
one_shown stopped stopped level b h g = refl
one_shown stopped (item t r) level b h (n, le, q, g) = absurd (h.1 n (le, (t, q)))
one_shown stopped (cut_off tag r) level b h g = absurd (h.2 g.1)
one_shown (item t s) ended level b (n, le, q, h) g = absurd (no_front_empty level b n t g le q)
one_shown (item t s) stopped level b (n, le, q, h) g = absurd (g.1 n (le, (t, q)))
one_shown (item t s) (item u r) level b (n, le, q, h) (m, lo, o, g) =
    let same : n ≡ m = front_size level b n (le, (t, q)) ∙ sym (front_size level b m (lo, (u, o)))
    in let tree : t ≡ u = one_tree t u level (take m b) (subst (λ k. Parses t level (take k b)) same q) o
    in let rest : s ≡ r = one_shown s r level (drop m b) (subst (λ k. Shows s level (drop k b)) same h) g
    in (λ i. item (tree i) (rest i))
one_shown (item t s) (cut_off tag r) level b (n, le, q, h) g = absurd (g.0 n (le, (t, q)))
one_shown (cut_off tag s) ended level b h g = absurd (omega (arith, ap length g, h.1.1))
one_shown (cut_off tag s) stopped level b h g = absurd (g.2 h.1)
one_shown (cut_off tag s) (item u r) level b h (m, lo, o, g) = absurd (h.0 m (lo, (u, o)))
one_shown (cut_off tag s) (cut_off other r) level b h g =
    let same : tag ≡ other = h.2 ∙ sym g.2
    in let rest : s ≡ r = one_shown s r (level + 1) (value_of b) h.3 g.3
    in (λ i. cut_off (same i) (rest i))

pub one_diagnostic : (p : Option ℕ) (b text other : List ℕ) → IsDiagnostic p b text
    → IsDiagnostic p b other → text ≡ other
one_diagnostic p b text other (s, h, e) (r, g, f) = e ∙ ap (shown_text p false) (one_shown s r 1 b h g) ∙ sym f

pub item_diagnostic : (p : Option ℕ) (t : Tree) (b : List ℕ) → Parses t 1 b → diagnostic p b ≡ printed p (skeleton t)
item_diagnostic p t b q = one_diagnostic p b (diagnostic p b) (printed p (skeleton t)) (is_diagnostic p b) (
  item t ended,
  (
    length b,
    omega arith,
    subst (Parses t 1) (sym (take-length b)) q,
    drop-length b,
  ),
  sym (append-nil (printed p (skeleton t))),
)
