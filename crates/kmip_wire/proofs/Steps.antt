-- What the item at the front says of bytes that are to be items.
use Rattle.std.proofs.Common.{◌≡◌, ◌≢◌, ℕ, zero, suc, ◌+◌, ◌-◌, ◌%◌, ◌≤◌, ◌<◌, Bool, true, false, ◌&&◌, eqb, List, [], ◌∷◌, length, take, drop, inl, inr, Option, Some, None, refl, sym, ap, subst, ◌∙◌, arith}
use Rattle.std.specs.Option.{is_some}
use Rattle.std.proofs.lemmas.Bool.{eqb-true}
use Rattle.std.proofs.lemmas.Bool.Decides.{leb_tells}
use Rattle.std.proofs.lemmas.Option.{none-some}
use Rattle.std.proofs.lemmas.List.{length-drop, length-take, drop-drop}
use Rattle.kmip_wire.specs.declared.kind.Kind.{Kind}
use Rattle.kmip_wire.specs.declared.kind.Kind.TheVariants.{Structure, Integer, LongInteger, BigInteger, Enumeration, Boolean, TextString, ByteString, DateTime, Interval}
use Rattle.kmip_wire.specs.Tree.{Tree, Trees, more}
use Rattle.kmip_wire.specs.Kinds.{kind_of}
use Rattle.kmip_wire.specs.Head.{head_tag, head_code, head_length, size_at, value_of}
use Rattle.kmip_wire.specs.Reading.{items_by, item_of, items_of, trees_with, well_formed, scalar_at, is_whole, node_at}
use Rattle.kmip_wire.specs.Open.{NoItems, Passes, Opens}
use Rattle.kmip_wire.proofs.Values.{chosen}
use Rattle.kmip_wire.proofs.Computed.{items_by-fuel, is_some-map, item_step_says, items_stop, front_short, front_deep, is_whole-says, some_of, size_at-take, take_take}

-- items are an item and items
is_some-joined_both : (o : Option Tree) (os : Option Trees) → is_some (trees_with o os) ≡ (is_some o && is_some os)
is_some-joined_both None os = refl
is_some-joined_both (Some t) os = is_some-map (more t) os

pub items_split : (levels : ℕ) (b : List ℕ) → 0 < length b
    → is_some (items_of levels b)
    ≡ (is_some (item_of levels (take (size_at b) b))
    && is_some (items_of levels (drop (size_at b) b)))
items_split levels [] h = absurd (omega arith)
items_split levels (x ∷ xs) h =
    let b : List ℕ = x ∷ xs in
    let n : ℕ = size_at b in
    is_some-joined_both (item_of levels (take n b)) (items_by (item_of levels) (length xs) (drop n b))
    ∙ ap (λ os. is_some (item_of levels (take n b)) && is_some os)
    (items_by-fuel (item_of levels) (length xs) (length (drop n b)) (drop n b)
    (omega (arith, length-drop n b)) (omega arith))

step_says : (levels : ℕ) (b : List ℕ) → 8 ≤ length b → size_at b ≤ length b
    → is_some (items_of (suc levels) b)
    ≡ (well_formed (is_some (items_of levels (value_of b))) (kind_of (head_code b)) (value_of b)
    && is_some (items_of (suc levels) (drop (size_at b) b)))
step_says levels b h le =
    items_split (suc levels) b (omega arith)
    ∙ ap (λ t. t && is_some (items_of (suc levels) (drop (size_at b) b))) (item_step_says levels b h le)

-- with no level left nothing but the empty list of items stands
pub no_levels : (b : List ℕ) → 0 < length b → is_some (items_of 0 b) ≡ false
no_levels b lt = items_stop 0 b lt (front_deep 0 b refl)

at_each : (b : List ℕ) → 0 < length b → ((levels : ℕ) → is_some (items_of (suc levels) b) ≡ false) → NoItems b
at_each b lt h zero = no_levels b lt
at_each b lt h (suc levels) = h levels

wf_scalar : (k : Kind) (i : Bool) (v : List ℕ) → (k ≡ Structure → ⊥)
    → well_formed i (Some k) v ≡ is_some (scalar_at k v)
wf_scalar Structure i v h = absurd (h refl)
wf_scalar Integer i v h = refl
wf_scalar LongInteger i v h = refl
wf_scalar BigInteger i v h = refl
wf_scalar Enumeration i v h = refl
wf_scalar Boolean i v h = refl
wf_scalar TextString i v h = refl
wf_scalar ByteString i v h = refl
wf_scalar DateTime i v h = refl
wf_scalar Interval i v h = refl

-- ---- lengths of items are multiples of 8

item_whole : (levels : ℕ) (b : List ℕ) → is_some (item_of levels b) ≡ true → (8 ≤ length b) × (length b ≡ size_at b)
unfolding item_of
item_whole zero b e = absurd cc
item_whole (suc levels) b e =
    let item = some_of (item_of (suc levels) b) e in
    elim (chosen (is_whole b) (node_at (items_of levels (value_of b)) (head_tag b)
    (kind_of (head_code b)) (value_of b)) None (Some item.0) item.1) [
      | inl p ↦ is_whole-says b p.0
      | inr p ↦ absurd (none-some item.0 p.1)
    ]

two : (x y : Bool) → (x && y) ≡ true → (x ≡ true) × (y ≡ true)
two true y e = (refl, e)
two false y e = absurd cc

size_even : (b : List ℕ) → size_at b % 8 ≡ 0
size_even b = omega arith

sums_even : (m n k : ℕ) → m % 8 ≡ 0 → n % 8 ≡ 0 → k ≡ m + n → k % 8 ≡ 0
sums_even m n k p q e = omega arith

items_even : (levels fuel : ℕ) (b : List ℕ) → is_some (items_by (item_of levels) fuel b) ≡ true → length b % 8 ≡ 0
items_even levels fuel [] e = refl
items_even levels zero (x ∷ xs) e = absurd cc
items_even levels (suc fuel) (x ∷ xs) e =
    let b : List ℕ = x ∷ xs in
    let n : ℕ = size_at b in
    let p = two (is_some (item_of levels (take n b)))
    (is_some (items_by (item_of levels) fuel (drop n b)))
    (sym (is_some-joined_both (item_of levels (take n b))
    (items_by (item_of levels) fuel (drop n b))) ∙ e) in
    let w = item_whole levels (take n b) p.0 in
    let same : size_at (take n b) ≡ n = size_at-take n b (omega arith) in
    let long : length (take n b) ≡ n = w.1 ∙ same in
    let rest : length (drop n b) % 8 ≡ 0 = items_even levels fuel (drop n b) p.1 in
    let even : n % 8 ≡ 0 = size_even b in
    let sum : length b ≡ n + length (drop n b) = omega (arith, long, length-take n b, length-drop n b) in
    sums_even n (length (drop n b)) (length b) even rest sum

not_true : (b : Bool) → (b ≡ true → ⊥) → b ≡ false
not_true true h = absurd (h refl)
not_true false h = refl

pub none_left : (b : List ℕ) → eqb (length b) 0 ≡ is_some (items_of 0 b)
none_left [] = refl
none_left (x ∷ xs) = not_true (eqb (length (x ∷ xs)) 0)
    (λ t. omega (arith, eqb-true (length (x ∷ xs)) 0 t)) ∙ sym (no_levels (x ∷ xs) (omega arith))

pub value_length : (b : List ℕ) → size_at b ≤ length b → length (value_of b) ≡ head_length b
value_length b le = omega (arith, length-take (head_length b) (drop 8 b), length-drop 8 b)

-- ---- what a step shows

module _ (b : List ℕ) (some : 0 < length b) where
  pub tells_short : length b < size_at b → NoItems b
  tells_short lt levels = items_stop levels b some (front_short levels b (λ _. lt))

  module _ (le : size_at b ≤ length b) where
    head : 8 ≤ length b
    head = omega (arith, le)

    -- past the item at the front
    after : ℕ → Bool
    after levels = is_some (items_of (suc levels) (drop (size_at b) b))

    pub tells_unkind : None ≡ kind_of (head_code b) → NoItems b
    unfolding after
    tells_unkind e = at_each b some
        (λ levels. step_says levels b head le
        ∙ ap (λ o. well_formed (is_some (items_of levels (value_of b))) o (value_of b)
        && after levels) (sym e))

    scalar_says : (k : Kind) (r : Bool) → Some k ≡ kind_of (head_code b) → k ≢ Structure
        → r ≡ is_some (scalar_at k (value_of b)) → (levels : ℕ)
        → is_some (items_of (suc levels) b) ≡ (r && after levels)
    unfolding after
    scalar_says k r kind n e levels =
        step_says levels b head le
        ∙ ap (λ o. well_formed (is_some (items_of levels (value_of b))) o (value_of b) && after levels) (sym kind)
        ∙ ap (λ t. t && after levels) (wf_scalar k (is_some (items_of levels (value_of b))) (value_of b) n ∙ sym e)

    pub tells_value : (k : Kind) → Some k ≡ kind_of (head_code b) → k ≢ Structure
        → true ≡ is_some (scalar_at k (value_of b)) → (n : ℕ) → n ≡ size_at b → Passes n b
    unfolding after
    tells_value k kind n e m same = (
      omega (arith, same),
      omega (arith, same, le),
      λ levels. scalar_says k true kind n e levels
          ∙ ap (λ i. is_some (items_of (suc levels) (drop i b))) (sym same),
    )

    pub tells_no_value : (k : Kind) → Some k ≡ kind_of (head_code b) → k ≢ Structure
        → false ≡ is_some (scalar_at k (value_of b)) → NoItems b
    tells_no_value k kind n e = at_each b some (λ levels. scalar_says k false kind n e levels)

    module _ (kind : Some Structure ≡ kind_of (head_code b)) where
      structure_says : (levels : ℕ) → is_some (items_of (suc levels) b)
          ≡ (is_some (items_of levels (value_of b)) && after levels)
      unfolding after
      structure_says levels =
          step_says levels b head le ∙ ap
          (λ o. well_formed (is_some (items_of levels (value_of b))) o (value_of b)
          && after levels) (sym kind)

      pub empty : head_length b ≡ 0 → Passes 8 b
      unfolding after
      empty e =
          let eight : size_at b ≡ 8 = ap (λ n. 8 + n + (8 - n % 8) % 8) e
          in (
            omega arith,
            head,
            λ levels.
                structure_says levels
                ∙ ap (λ n. is_some (items_of levels (take n (drop 8 b))) && after levels) e
                ∙ ap (λ n. is_some (items_of (suc levels) (drop n b))) eight,
          )

      opens : head_length b % 8 ≡ 0 → Opens (head_length b) b
      unfolding after
      opens even =
          let long : size_at b ≡ 8 + head_length b = omega (arith, even)
          in let far : drop (size_at b) b ≡ drop (head_length b) (drop 8 b) =
          ap (λ k. drop k b) long ∙ sym (drop-drop (head_length b) 8 b)
          in (
            omega (arith, long, le),
            λ levels. structure_says levels
                ∙ ap (λ r. is_some (items_of levels (value_of b))
                && is_some (items_of (suc levels) r)) far,
          )

      ragged : head_length b % 8 ≢ 0 → NoItems b
      ragged n =
          at_each b some (λ levels.
          structure_says levels
          ∙ ap (λ t. t && after levels)
          (not_true (is_some (items_of levels (value_of b)))
          (λ t. n (ap (λ m. m % 8) (sym (value_length b le))
          ∙ items_even levels (length (value_of b)) (value_of b) t))))

  -- whether or not all the bytes are there
  by_size : (size_at b ≤ length b → NoItems b) → NoItems b
  by_size h = elim (leb_tells (size_at b) (length b)) [
    | inl p ↦ h p.1
    | inr p ↦ tells_short p.1
  ]

  pub tells_unknown : None ≡ kind_of (head_code b) → NoItems b
  tells_unknown e = by_size (λ le. tells_unkind le e)

  pub tells_open : (n : ℕ) → n ≡ head_length b → Some Structure ≡ kind_of (head_code b) → n % 8 ≡ 0
      → n ≤ length b - 8 → 8 ≤ length b → Opens n b
  tells_open n e kind even within eight =
      let P : ℕ → Type 0 = λ k. Opens k b in
      let here : size_at b ≤ length b = omega (arith, e, even, within, eight) in
      subst P (sym e) (opens here kind (ap (λ k. k % 8) (sym e) ∙ even))

  pub tells_ragged : Some Structure ≡ kind_of (head_code b) → head_length b % 8 ≢ 0 → NoItems b
  tells_ragged kind n = by_size (λ le. ragged le kind n)

-- the part that the code takes of value and pads
pub value_cut : (b : List ℕ) (whole n : ℕ) → whole ≡ size_at b → n ≡ head_length b
    → take n (take (whole - 8) (drop 8 b)) ≡ value_of b
value_cut b whole n w e = take_take n (whole - 8) (drop 8 b) (omega (arith, w, e)) ∙ ap (λ k. take k (drop 8 b)) e
