-- What bytes show, step by step.
use Rattle.std.proofs.Common.{◌≡◌, refl, sym, ◌∙◌, ap, subst, arith, ℕ, zero, suc, ◌+◌, ◌≤◌, ◌<◌, List, [], ◌∷◌, length, take, drop, Option, Some, None}
use Rattle.std.proofs.lemmas.List.{length-take, length-drop}
use Rattle.kmip_wire.specs.Tree.{Tree}
use Rattle.kmip_wire.specs.Head.{size_at, value_of, head_length}
use Rattle.kmip_wire.specs.Reading.{front_at}
use Rattle.kmip_diag.specs.Diagnostic.{ended, stopped, item, cut_off, opening_tag, shown_by, shown_at, shown_within}
use Rattle.kmip_diag.proofs.Wire.{IsFrontTree, front_rule, value_shorter}
use Rattle.kmip_diag.proofs.Showing.{opened_says}
use Rattle.kmip_encodings.specs.Sizes.{size_of}
use Rattle.kmip_encodings.proofs.Parsed.{parsed_size}

-- fuel above the length is enough
same_fuel : (f g level : ℕ) (b : List ℕ) → length b < f → length b < g → shown_at f level b ≡ shown_at g level b
same_fuel zero g level b h k = absurd (omega (arith, h))
same_fuel (suc f) zero level b h k = absurd (omega (arith, k))
same_fuel (suc f) (suc g) level [] h k = refl
same_fuel (suc f) (suc g) level (x ∷ xs) h k =
    let short = length-drop (size_at (x ∷ xs)) (x ∷ xs)
    in let shorter = value_shorter (x ∷ xs) (omega arith)
    in let rest = same_fuel f g level (drop (size_at (x ∷ xs)) (x ∷ xs)) (omega (arith, h, short))
    (omega (arith, k, short))
    in let inner = same_fuel f g (level + 1) (value_of (x ∷ xs)) (omega (arith, h, shorter)) (omega (arith, k, shorter))
    in λ i. shown_by (front_at level (x ∷ xs)) (opening_tag level (x ∷ xs)) (rest i) (inner i)

shown_step : (level : ℕ) (b : List ℕ) → 0 < length b
    → shown_within level b ≡ shown_by (front_at level b) (opening_tag level b)
    (shown_within level (drop (size_at b) b)) (shown_within (level + 1) (value_of b))
unfolding shown_within
shown_step level [] some = absurd (omega (arith, some))
shown_step level (x ∷ xs) some =
    let short = length-drop (size_at (x ∷ xs)) (x ∷ xs)
    in let shorter = value_shorter (x ∷ xs) some
    in let rest = same_fuel (length (x ∷ xs))
    (suc (length (drop (size_at (x ∷ xs)) (x ∷ xs)))) level (drop (size_at (x ∷ xs)) (x ∷ xs))
    (omega (arith, short)) (omega arith)
    in let inner = same_fuel (length (x ∷ xs)) (suc (length (value_of (x ∷ xs)))) (level + 1)
    (value_of (x ∷ xs)) (omega (arith, shorter)) (omega arith)
    in λ i. shown_by (front_at level (x ∷ xs)) (opening_tag level (x ∷ xs)) (rest i) (inner i)

pub step_ended : (level : ℕ) (b : List ℕ) → b ≡ [] → shown_within level b ≡ ended
unfolding shown_within
step_ended level b e = ap (λ x. shown_at (suc (length x)) level x) e

module _ (level : ℕ) (b : List ℕ) (some : 0 < length b) where
  by : (o : Option Tree) (w : Option ℕ) → o ≡ front_at level b → w ≡ opening_tag level b
      → shown_within level b ≡ shown_by o w (shown_within level (drop (size_at b) b))
      (shown_within (level + 1) (value_of b))
  by o w e f =
      shown_step level b some
      ∙ ap (λ x. shown_by x (opening_tag level b) (shown_within level (drop (size_at b) b))
      (shown_within (level + 1) (value_of b))) (sym e)
      ∙ ap (λ x. shown_by o x (shown_within level (drop (size_at b) b)) (shown_within (level + 1) (value_of b))) (sym f)

  pub step_item : (t : Tree) (rest : List ℕ) → 1 ≤ level → Some t ≡ front_at level b → rest ≡ drop (size_at b) b
      → (shown_within level b ≡ item t (shown_within level rest)) × (rest ≡ drop (size_at b) b)
      × (size_of t ≡ size_at b) × (size_at b + length rest ≡ length b)
  step_item t rest low front dropped =
      let rule = subst (IsFrontTree level b) (sym front) (front_rule level b low) in
      let size = (parsed_size t level (take (size_at b) b) rule.1).0 in
      let there = length-take (size_at b) b in
      let after = length-drop (size_at b) b in
      let e = ap length dropped in (
        by (Some t) (opening_tag level b) front refl
            ∙ ap (λ r. item t (shown_within level r)) (sym dropped),
        dropped,
        omega (arith, size, there, rule.0),
        omega (arith, e, after, rule.0),
      )

  pub step_stopped : None ≡ front_at level b → None ≡ opening_tag level b → shown_within level b ≡ stopped
  step_stopped front opens = by None None front opens

  pub step_cut_off : (tag : ℕ) (inner : List ℕ) → None ≡ front_at level b
      → Some tag ≡ opening_tag level b → inner ≡ value_of b
      → (shown_within level b ≡ cut_off tag (shown_within (level + 1) inner)) × (inner ≡ value_of b)
      × (8 + length inner ≤ length b) × (level ≤ 64)
  step_cut_off tag inner front opens inside =
      let o = opened_says level b tag (sym opens) in
      let e = ap length inside in (
        by None (Some tag) front opens ∙ ap (λ r. cut_off tag (shown_within (level + 1) r))
            (sym inside),
        inside,
        omega
            (arith, e, o.0.1, length-take (head_length b) (drop 8 b), length-drop 8 b),
        o.0.0,
      )
