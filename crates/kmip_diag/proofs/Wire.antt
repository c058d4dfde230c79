-- What kmip_wire's definitions give, in the forms that are used here.
use Rattle.std.proofs.Common.{◌≡◌, refl, sym, ◌∙◌, ap, subst, arith, ℕ, ◌-◌, ◌≤◌, ◌<◌, Bool, true, false, leb, eqb, List, [], ◌∷◌, length, take, drop, Option, Some, None, MatchOption}
use Rattle.std.proofs.lemmas.Bool.{false≢true, leb-true, leb-false, eqb-true}
use Rattle.std.proofs.lemmas.Slice.Eq.{bytes_eq-Decides}
use Rattle.std.specs.Prelude.{bytes_eq}
use mathlib.Core.Bool.{not}
use Rattle.std.proofs.lemmas.Option.{none-some}
use Rattle.std.proofs.lemmas.List.{length-take, length-drop}
use Rattle.kmip_wire.specs.Tree.{Tree}
use Rattle.kmip_wire.specs.Head.{head_length, size_at, value_of}
use Rattle.kmip_wire.specs.Parses.{Parses, IsLevel, IsFront, NoFront}
use Rattle.kmip_wire.specs.Reading.{item_of, front_at}
use Rattle.kmip_wire.proofs.Computed as computed

pub no_front_deep : (level : ℕ) (b : List ℕ) → 64 < level → front_at level b ≡ None
unfolding item_of
no_front_deep level b h = let none : 65 - level ≡ 0 = omega (arith, h) in ap (λ k. item_of k (take (size_at b) b)) none

-- an item at the front is as long as its head says
pub front_size : (level : ℕ) (b : List ℕ) (n : ℕ) → IsFront level b n → n ≡ size_at b
front_size level b n (le, (t, q)) = sym (computed.front_size t level n b le q)

-- the item at the front, or none
abbrev pub IsFrontTree : ℕ → List ℕ → Option Tree → Type 0
IsFrontTree level b o = MatchOption o (NoFront level b)
    (λ t. (size_at b ≤ length b) × Parses t level (take (size_at b) b))

pub front_rule : (level : ℕ) (b : List ℕ) → 1 ≤ level → IsFrontTree level b (front_at level b)
front_rule level b low = by_level (leb level 64) refl
  where
    by_front : IsLevel level → (o : Option Tree) → front_at level b ≡ o → IsFrontTree level b o
    by_front l None e = λ n (le, (t, q)). none-some t (sym e ∙ (computed.front_computed t level b l).1 (n, le, q))
    by_front l (Some t) e =
        let f = (computed.front_computed t level b l).0 e
        in subst (λ n. (n ≤ length b) × Parses t level (take n b))
        (sym (computed.front_size t level f.0 b f.1 f.2)) (f.1, f.2)

    by_level : (x : Bool) → leb level 64 ≡ x → IsFrontTree level b (front_at level b)
    by_level true e = by_front (low, leb-true level 64 e) (front_at level b) refl
    by_level false e =
        let deep = leb-false level 64 e
        in subst (IsFrontTree level b) (sym (no_front_deep level b deep))
        (λ n (le, (t, q)). omega (
          arith,
          deep,
          (computed.sized t level (take n b)
              q).level_is.1,
        ))

-- contents are shorter than the item with its head
pub value_shorter : (b : List ℕ) → 0 < length b → length (value_of b) < length b
value_shorter b some = omega (arith, some, length-take (head_length b) (drop 8 b), length-drop 8 b)

-- the test of a loop over bytes
pub some_bytes : (b : List ℕ) (r : Bool) → r ≡ eqb (length b) 0 → r ≡ false → 0 < length b
some_bytes [] r h e = absurd (false≢true (sym e ∙ h))
some_bytes (x ∷ xs) r h e = omega arith

pub no_bytes : (b : List ℕ) (r : Bool) → r ≡ eqb (length b) 0 → r ≡ true → b ≡ []
no_bytes [] r h e = refl
no_bytes (x ∷ xs) r h e = absurd (omega (arith, eqb-true (length (x ∷ xs)) 0 (sym h ∙ e)))

-- the test of two texts
pub other_text : (x again text : List ℕ) (r : Bool) → r ≡ not (bytes_eq x text) → x ≡ again
    → r ≡ true → again ≡ text → ⊥
other_text x again text r h e f same = false≢true (sym (h ∙ ap not ((bytes_eq-Decides x text).1 (e ∙ same))) ∙ f)

pub same_text : (x again text : List ℕ) (r : Bool) → r ≡ not (bytes_eq x text) → x ≡ again → r ≡ false → again ≡ text
same_text x again text r h e f = by_test (bytes_eq x text) refl (sym h ∙ f)
  where
    by_test : (t : Bool) → bytes_eq x text ≡ t → not t ≡ false → again ≡ text
    by_test true g k = sym e ∙ (bytes_eq-Decides x text).0 g
    by_test false g k = absurd (false≢true (sym k))
