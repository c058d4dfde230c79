-- Bytes have no fault exactly where they are items.
use Rattle.std.proofs.Common.{◌≡◌, refl, sym, ◌∙◌, ap, subst, arith, ℕ, zero, suc, ◌+◌, ◌≤◌, ◌<◌, ◌↔◌, true, false, List, [], ◌∷◌, ◌++◌, ℤ, pos, negsuc, length, take, drop, Option, Some, None, MatchOption}
use Rattle.std.specs.Prelude.{codes}
use Rattle.std.specs.Fmt.{decimal}
use Rattle.std.proofs.lemmas.Option.{none-some}
use Rattle.std.proofs.lemmas.List.{length-take, length-drop, length-append}
use Rattle.kmip_wire.specs.Tree.{Tree, Trees, none, more}
use Rattle.kmip_wire.specs.Head.{size_at, value_of}
use Rattle.kmip_wire.specs.Parses.{Parses, ParseAll, NoFront}
use Rattle.kmip_wire.specs.Reading.{front_at}
use Rattle.kmip_wire.proofs.Computed as computed
use Rattle.kmip_diag.specs.Diagnostic.{Shown, ended, stopped, item, cut_off, Shows, opening_tag, shown_by, shown_at, shown_within}
use Rattle.kmip_diag.proofs.Wire.{front_rule, value_shorter}
use Rattle.kmip_diag.proofs.Showing.{opened_says, opened_where}
use Rattle.kmip_faults.specs.declared.fault.Fault.{Fault}
use Rattle.kmip_faults.specs.Fault.{fault_in, fault_of, fault_text, why_text}

-- what is shown is what the relation says
shows_step : (level : ℕ) (b : List ℕ) (rest inner : Shown) → 0 < length b
    → Shows rest level (drop (size_at b) b) → Shows inner (level + 1) (value_of b)
    → (o : Option Tree) → MatchOption o (NoFront level b)
    (λ t. (size_at b ≤ length b) × Parses t level (take (size_at b) b))
    → (w : Option ℕ) → opening_tag level b ≡ w → Shows (shown_by o w rest inner) level b
shows_step level b rest inner some r i (Some t) m w e = (size_at b, m.0, m.1, r)
shows_step level b rest inner some r i None m (Some tag) e = let o = opened_says level b tag e in (m, o.0, o.1, i)
shows_step level b rest inner some r i None m None e = (some, m, λ o. none-some _ (sym e ∙ opened_where level b o))

shows_at : (fuel level : ℕ) (b : List ℕ) → 1 ≤ level → length b < fuel → Shows (shown_at fuel level b) level b
shows_at zero level b low h = absurd (omega (arith, h))
shows_at (suc fuel) level [] low h = refl
shows_at (suc fuel) level (x ∷ xs) low h =
    let short = length-drop (size_at (x ∷ xs)) (x ∷ xs)
    in let shorter = value_shorter (x ∷ xs) (omega arith)
    in shows_step level (x ∷ xs) (shown_at fuel level (drop (size_at (x ∷ xs)) (x ∷ xs)))
    (shown_at fuel (level + 1) (value_of (x ∷ xs))) (omega arith)
    (shows_at fuel level (drop (size_at (x ∷ xs)) (x ∷ xs)) low (omega (arith, h, short)))
    (shows_at fuel (level + 1) (value_of (x ∷ xs)) (omega arith) (omega (arith, h, shorter)))
    (front_at level (x ∷ xs)) (front_rule level (x ∷ xs) low) (opening_tag level (x ∷ xs)) refl

-- inside a structure that is cut off there is a fault
cut_off_faulty : (at level : ℕ) (b : List ℕ) (s : Shown) → fault_in at level true b s ≡ None → ⊥
cut_off_faulty at level b ended e = none-some _ (sym e)
cut_off_faulty at level b stopped e = none-some _ (sym e)
cut_off_faulty at level b (item t s) e = cut_off_faulty (at + size_at b) level (drop (size_at b) b) s e
cut_off_faulty at level b (cut_off tag s) e = cut_off_faulty (at + 8) (level + 1) (value_of b) s e

are_items : (at level : ℕ) (b : List ℕ) (s : Shown) → Shows s level b
    → fault_in at level false b s ≡ None → (ts : Trees) × ParseAll ts level b
are_items at level b ended h e = (none, h)
are_items at level b stopped h e = absurd (none-some _ (sym e))
are_items at level b (item t s) (n, le, p, q) e =
    let same = computed.front_size t level n b le p in
    let later = are_items (at + size_at b) level (drop (size_at b) b) s
    (subst (λ k. Shows s level (drop k b)) (sym same) q) e in
    (more t later.0, (n, le, p, subst (λ k. ParseAll later.0 level (drop k b)) same later.1))
are_items at level b (cut_off tag s) h e = absurd (cut_off_faulty (at + 8) (level + 1) (value_of b) s e)

nothing_there : (t : Tree) (level n : ℕ) (b : List ℕ) → b ≡ [] → Parses t level (take n b) → ⊥
nothing_there t level n b e p = omega (arith, (computed.sized t level (take n b) p).head, length-take n b, ap length e)

no_fault : (at level : ℕ) (b : List ℕ) (s : Shown) → Shows s level b → (ts : Trees)
    → ParseAll ts level b → fault_in at level false b s ≡ None
no_fault at level b ended h ts p = refl
no_fault at level b stopped (some, front, opens) none p = absurd (omega (arith, some, ap length p))
no_fault at level b stopped (some, front, opens) (more t ts) (n, le, p, q) = absurd (front n (le, (t, p)))
no_fault at level b (item t s) (n, le, p, q) none e = absurd (nothing_there t level n b e p)
no_fault at level b (item t s) (n, le, p, q) (more u ts) (m, me, r, w) =
    let one = computed.front_size t level n b le p in
    let two = computed.front_size u level m b me r in
    no_fault (at + size_at b) level (drop (size_at b) b) s
    (subst (λ k. Shows s level (drop k b)) (sym one) q) ts
    (subst (λ k. ParseAll ts level (drop k b)) (sym two) w)
no_fault at level b (cut_off tag s) (front, opens, is, q) none p = absurd (omega (arith, opens.1, ap length p))
no_fault at level b (cut_off tag s) (front, opens, is, q) (more t ts) (n, le, p, w) = absurd (front n (le, (t, p)))

faultless : (b : List ℕ) → (fault_of b ≡ None) ↔ ((ts : Trees) × ParseAll ts 1 b)
unfolding fault_of shown_within
faultless b =
    let s = shown_at (suc (length b)) 1 b in
    let h = shows_at (suc (length b)) 1 b (omega arith) (omega arith) in
    (are_items 0 1 b s h, λ p. no_fault 0 1 b s h p.0 p.1)

-- the text of a fault has at least the space
some_text : (f : Fault) → 0 < length (fault_text (Some f))
some_text f =
    let space : length (codes " ") ≡ 1 = refl in
    omega (
      arith,
      space,
      length-append (decimal f.at) (codes " " ++ why_text f.why),
      length-append (codes " ") (why_text f.why),
    )

no_text : (f : Option Fault) → (length (fault_text f) ≡ 0) ↔ (f ≡ None)
no_text None = (λ _. refl, λ _. refl)
no_text (Some f) = (λ e. absurd (omega (arith, e, some_text f)), λ e. absurd (none-some f (sym e)))

abbrev number : ℤ → ℕ
number (pos n) = n
number (negsuc n) = 0

pub empty_where : (b : List ℕ) (r : ℤ) → r ≡ pos (length (fault_text (fault_of b)))
    → (r ≡ pos 0) ↔ ((ts : Trees) × ParseAll ts 1 b)
empty_where b r e = (
  λ z. (faultless b).0 ((no_text (fault_of b)).0 (ap number (sym e ∙ z))),
  λ p. e ∙ ap pos ((no_text (fault_of b)).1 ((faultless b).1 p)),
)
