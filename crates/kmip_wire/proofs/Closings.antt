-- What is still to be found before each open structure closes, from one step to the next.
use Rattle.std.proofs.Common.{◌≡◌, ◌≢◌, refl, sym, ◌∙◌, ap, subst, arith, ℕ, zero, suc, ◌+◌, ◌-◌, ◌≤◌, ◌<◌, Bool, true, false, ◌&&◌, List, length, take, drop, set, get_or, replicate}
use Rattle.std.specs.Option.{is_some}
use Rattle.std.proofs.lemmas.List.{length-drop, length-take-le, drop-drop, drop-take, length-set, get_or-set_same, get_or-set_other}
use Rattle.std.proofs.Math.Seq.{take-length}
use Rattle.kmip_wire.specs.Reading.{items_of}
use Rattle.kmip_wire.specs.Open.{are_after, are_open, total, State, NoItems, Passes, Opens}
use Rattle.kmip_wire.proofs.Computed.{take_take}
use Rattle.kmip_wire.proofs.Steps.{no_levels}

-- a write at a place deeper than the open structures
after_set : (levels : ℕ) (lefts : List ℕ) (i n d : ℕ) (rest : List ℕ) → d ≤ i
    → are_after levels (set lefts i n) d rest ≡ are_after levels lefts d rest
after_set levels lefts i n zero rest le = refl
after_set levels lefts i n (suc d) rest le =
    let e : get_or (set lefts i n) d 0 ≡ get_or lefts d 0 = get_or-set_other lefts i d n 0 (λ s. omega (arith, s, le))
    in ap (λ k. is_some (items_of levels (take k rest)) && are_after (levels + 1) (set lefts i n) d (drop k rest)) e
    ∙ ap (λ t. is_some (items_of levels (take (get_or lefts d 0) rest)) && t)
    (after_set (levels + 1) lefts i n d (drop (get_or lefts d 0) rest) (omega (arith, le)))

total_set : (lefts : List ℕ) (i n d : ℕ) → d ≤ i → total (set lefts i n) d ≡ total lefts d
total_set lefts i n zero le = refl
total_set lefts i n (suc d) le =
    omega (arith, get_or-set_other lefts i d n 0 (λ s. omega (arith, s, le)), total_set lefts i n d (omega (arith, le)))

-- the first `n` of `left` bytes are taken
module _ (left n : ℕ) (rest : List ℕ) (le : n ≤ left) where
  split : n + (left - n) ≡ left
  split = omega (arith, le)

  near : drop n (take left rest) ≡ take (left - n) (drop n rest)
  near = ap (λ k. drop n (take k rest)) (sym split) ∙ drop-take n (left - n) rest

  far : drop (left - n) (drop n rest) ≡ drop left rest
  far = drop-drop (left - n) n rest ∙ ap (λ k. drop k rest) split

and_assoc : (a b c : Bool) → (a && (b && c)) ≡ ((a && b) && c)
and_assoc true b c = refl
and_assoc false b c = refl

module _ (levels : ℕ) (lefts : List ℕ) (depth left : ℕ) (rest : List ℕ) where
  -- an item is taken
  item_closes : (n : ℕ) → n ≤ left → is_some (items_of levels (take left rest))
      ≡ is_some (items_of levels (drop n (take left rest)))
      → are_open levels lefts depth (left - n) (drop n rest) ≡ are_open levels lefts depth left rest
  item_closes n le same =
      ap (λ r. is_some (items_of levels r)
      && are_after (levels + 1) lefts depth (drop (left - n) (drop n rest)))
      (sym (near left n rest le))
      ∙ ap (λ t. t && are_after (levels + 1) lefts depth (drop (left - n) (drop n rest))) (sym same)
      ∙ ap (λ r. is_some (items_of levels (take left rest)) && are_after (levels + 1) lefts depth r)
      (far left n rest le)

-- a structure is opened, `more` being left around it
module _ (levels : ℕ) (lefts : List ℕ) (depth left n more : ℕ) (rest : List ℕ)
    (fits : depth < length lefts) (le : 8 + n ≤ left) (rest_of : more ≡ left - 8 - n) where
  rows : List ℕ
  rows = set lefts depth more

  written : get_or rows depth 0 ≡ more
  unfolding rows
  written = get_or-set_same lefts depth more 0 fits

  total_opens : total rows (suc depth) ≡ more + total lefts depth
  unfolding rows
  total_opens = omega (arith, written, total_set lefts depth more depth (omega arith))

  inner : List ℕ
  inner = drop n (drop 8 rest)

  cut8 : drop 8 (take left rest) ≡ take (left - 8) (drop 8 rest)
  cut8 = near left 8 rest (omega (arith, le))

  head : take n (drop 8 (take left rest)) ≡ take n (drop 8 rest)
  head = ap (take n) cut8 ∙ take_take n (left - 8) (drop 8 rest) (omega (arith, le))

  tail : drop n (drop 8 (take left rest)) ≡ take more inner
  unfolding inner
  tail = ap (drop n) cut8 ∙ near (left - 8) n (drop 8 rest) (omega (arith, le))
      ∙ ap (λ k. take k (drop n (drop 8 rest))) (sym rest_of)

  beyond : drop more inner ≡ drop left rest
  unfolding inner
  beyond =
      ap (λ k. drop k (drop n (drop 8 rest))) rest_of
      ∙ far (left - 8) n (drop 8 rest) (omega (arith, le)) ∙ far left 8 rest (omega (arith, le))

  opening : is_some (items_of (suc levels) (take left rest))
      ≡ (is_some (items_of levels (take n (drop 8 (take left rest))))
      && is_some (items_of (suc levels) (drop n (drop 8 (take left rest)))))
      → are_open levels rows (suc depth) n (drop 8 rest) ≡ are_open (suc levels) lefts depth left rest
  unfolding rows inner
  opening same =
      let first : Bool = is_some (items_of levels (take n (drop 8 rest))) in
      let up : levels + 1 ≡ suc levels = omega arith in
      let seen : is_some (items_of (suc levels) (take left rest))
      ≡ (first && is_some (items_of (suc levels) (take more inner))) =
      same ∙ ap (λ r. is_some (items_of levels r)
      && is_some (items_of (suc levels) (drop n (drop 8 (take left rest))))) head
      ∙ ap (λ r. first && is_some (items_of (suc levels) r)) tail in
      ap (λ l. first && (is_some (items_of l (take (get_or rows depth 0) inner))
      && are_after (l + 1) rows depth (drop (get_or rows depth 0) inner))) up
      ∙ ap (λ k. first && (is_some (items_of (suc levels) (take k inner))
      && are_after (suc levels + 1) rows depth (drop k inner))) written
      ∙ ap (λ t. first && (is_some (items_of (suc levels) (take more inner)) && t))
      (after_set (suc levels + 1) lefts depth more depth (drop more inner) (omega arith))
      ∙ and_assoc first (is_some (items_of (suc levels) (take more inner)))
      (are_after (suc levels + 1) lefts depth (drop more inner))
      ∙ ap (λ t. t && are_after (suc levels + 1) lefts depth (drop more inner)) (sym seen)
      ∙ ap (λ r. is_some (items_of (suc levels) (take left rest)) && are_after (suc levels + 1) lefts depth r) beyond

-- the start of the check
one_region : (b : Bool) → (b && true) ≡ b
one_region true = refl
one_region false = refl

all_levels : (n : ℕ) → n - 0 ≡ n
all_levels n = omega arith

pub start : (levels : ℕ) (bytes : List ℕ) → 0 < levels → State levels bytes (replicate 64 0) 0 (length bytes) bytes
start levels bytes some = record {
  room = refl;
  within = some;
  sum = omega arith;
  same = ap (λ k. are_open k (replicate 64 0) 0 (length bytes) bytes) (all_levels levels)
      ∙ one_region (is_some (items_of levels (take (length bytes) bytes)))
      ∙ ap (λ b. is_some (items_of levels b)) (take-length bytes);
}

-- the steps of the check
module _ (levels : ℕ) (bytes lefts : List ℕ) (depth left : ℕ) (rest : List ℕ) (most : levels ≤ 64)
    (s : State levels bytes lefts depth left rest) where
  lower : ℕ
  lower = levels - depth - 1

  here : levels - depth ≡ suc lower
  unfolding lower
  here = omega (arith, s.within)

  pub whole : length (take left rest) ≡ left
  whole = length-take-le left rest (omega (arith, s.sum))

  same_here : are_open (suc lower) lefts depth left rest ≡ is_some (items_of levels bytes)
  same_here = ap (λ k. are_open k lefts depth left rest) (sym here) ∙ s.same

  pub found_malformed : NoItems (take left rest) → false ≡ is_some (items_of levels bytes)
  found_malformed t = sym (ap (λ b. b && are_after (levels - depth + 1) lefts depth
      (drop left rest)) (t (levels - depth))) ∙ s.same

  pub found_item : (n : ℕ) → Passes n (take left rest) → State levels bytes lefts depth (left - n) (drop n rest)
  found_item n t =
      let le : n ≤ left = omega (arith, whole, t.1)
      in record {
        room = s.room;
        within = s.within;
        sum = omega (arith, s.sum, le, length-drop n rest);
        same = ap (λ k. are_open k lefts depth (left - n) (drop n rest)) here
            ∙ item_closes (suc lower) lefts depth left rest n le (t.2 lower) ∙ same_here;
      }

  pub found_deepest : (n : ℕ) → Opens n (take left rest) → 0 < n → depth + 1 ≡ levels
      → false ≡ is_some (items_of levels bytes)
  unfolding lower
  found_deepest n t some_n e =
      let contents : List ℕ = take n (drop 8 (take left rest))
      in let fits : n ≤ length (drop 8 (take left rest)) = omega (arith, t.0, length-drop 8 (take left rest))
      in let some : 0 < length contents = omega (arith, length-take-le n (drop 8 (take left rest)) fits, some_n)
      in let last : lower ≡ 0 = omega (arith, e)
      in let after : Bool = is_some (items_of (suc lower) (drop n (drop 8 (take left rest))))
      in let deep : is_some (items_of lower contents) ≡ false =
      ap (λ k. is_some (items_of k contents)) last ∙ no_levels contents some
      in let none : is_some (items_of (suc lower) (take left rest)) ≡ false = t.1 lower ∙ ap (λ b. b && after) deep
      in sym (ap (λ b. b && are_after (suc lower + 1) lefts depth (drop left rest)) none) ∙ same_here

  pub found_open : (n deep more : ℕ) → Opens n (take left rest) → depth + 1 ≢ levels
      → deep ≡ suc depth → more ≡ left - 8 - n
      → State levels bytes (set lefts depth more) deep n (drop 8 rest)
  unfolding lower rows
  found_open n deep more t ne e m =
      let le : 8 + n ≤ left = omega (arith, whole, t.0)
      in let fits : depth < length lefts = omega (arith, s.room, s.within, most)
      in let P : ℕ → Type 0 = λ d. State levels bytes (set lefts depth more) d n (drop 8 rest)
      in subst P (sym e) (record {
        room = length-set lefts depth more ∙ s.room;
        within = below depth levels s.within ne;
        sum = omega (
          arith,
          total_opens (levels - suc depth) lefts depth left n more rest fits le m,
          length-drop 8 rest,
          s.sum,
          m,
          le,
        );
        same =
            ap (λ k. are_open k (set lefts depth more) (suc depth) n (drop 8 rest)) (deeper levels depth)
            ∙ opening lower lefts depth left n more rest fits le m (t.1 lower)
            ∙ same_here;
      })
    where
      below : (a b : ℕ) → a < b → a + 1 ≢ b → suc a < b
      below a b h n = omega (arith, h, n)

      deeper : (a b : ℕ) → a - suc b ≡ a - b - 1
      deeper a b = omega arith

  pub found_end : (above : ℕ) → depth ≡ suc above → left ≡ 0
      → State levels bytes lefts above (get_or lefts above 0) rest
  found_end above e z =
      let Q : ℕ → ℕ → Type 0 = λ d k. are_open (levels - d) lefts d k rest ≡ is_some (items_of levels bytes)
      in let P : ℕ → Type 0 = λ d. Q d 0
      in let q : Q (suc above) 0 = subst P e (subst (Q depth) z s.same)
      in let up : levels - above ≡ levels - suc above + 1 = omega (arith, e, s.within)
      in record {
        room = s.room;
        within = omega (arith, e, s.within);
        sum = omega (arith, s.sum, z, ap (total lefts) e);
        same = ap (λ k. are_open k lefts above (get_or lefts above 0) rest) up ∙ q;
      }

  pub found_all : depth ≡ 0 → left ≡ 0 → true ≡ is_some (items_of levels bytes)
  found_all e z =
      let Q : ℕ → ℕ → Type 0 = λ d k. are_open (levels - d) lefts d k rest ≡ is_some (items_of levels bytes)
      in let P : ℕ → Type 0 = λ d. Q d 0
      in let q : Q 0 0 = subst P e (subst (Q depth) z s.same)
      in q
