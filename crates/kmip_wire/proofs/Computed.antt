-- What is computed from bytes is what parses, and what follows.
use Rattle.std.proofs.Common.{◌≡◌, ℕ, zero, suc, ◌+◌, ◌-◌, ◌≤◌, ◌<◌, Bool, true, false, cond, eqb, leb, ◌&&◌, List, [], ◌∷◌, ◌++◌, length, take, drop, Option, Some, None, refl, sym, ap, subst, ◌∙◌, arith, inl, inr, ◌⊎◌, ◌↔◌}
use Rattle.std.specs.Option.{option_map, is_some, MatchOption}
use Rattle.std.specs.Bool.{IsTrue}
use Rattle.std.proofs.Math.Seq.{take-length}
use Rattle.std.proofs.lemmas.Bool.{eqb-true, eq-eqb, leb-true, le-leb}
use Rattle.std.proofs.lemmas.Option.{cond_some, same_Some, none-some}
use Rattle.std.proofs.lemmas.List.{get_or-take, length-take-le, length-take, length-drop, take_at, drop_at, length-append, drop-take}
use Rattle.kmip_wire.specs.declared.kind.Kind.{Kind}
use Rattle.kmip_wire.specs.declared.kind.Kind.TheVariants.{Structure, Integer, LongInteger, BigInteger, Enumeration, Boolean, TextString, ByteString, DateTime, Interval}
use Rattle.kmip_wire.specs.Tree.{Tree, Trees, scalar, structure, none, more, Scalar, integer, long_integer, big_integer, enumeration, boolean, text_string, byte_string, date_time, interval}
use Rattle.kmip_wire.specs.Kinds.{code_of, kind_of, kind_of_scalar}
use Rattle.kmip_wire.specs.Head.{head_tag, head_code, head_length, size_at, value_of}
use Rattle.kmip_wire.specs.Parses.{IsValue, IsLevel, Parses, ParseAll, IsFront, NoFront, AreTexts, joined_texts}
use Rattle.kmip_wire.specs.Reading.{well_formed, scalar_at, trees_with, items_by, is_whole, node_at, item_of, items_of, front_at, front_of}
use Rattle.kmip_wire.proofs.Values.{kind_of-code_of, code_of-kind_of, chosen, scalar_at-sound, scalar_at-complete}

-- ---- the head of a front

pub head_length-take : (n : ℕ) (b : List ℕ) → 8 ≤ n → head_length (take n b) ≡ head_length b
unfolding head_length
head_length-take n b h =
    rw (get_or-take n b 4 0 (omega arith))
    (rw (get_or-take n b 5 0 (omega arith))
    (rw (get_or-take n b 6 0 (omega arith)) (rw (get_or-take n b 7 0 (omega arith)) refl)))

pub size_at-take : (n : ℕ) (b : List ℕ) → 8 ≤ n → size_at (take n b) ≡ size_at b
size_at-take n b h = rw (head_length-take n b h) refl

-- ---- parts of an item

pub record IsSized (level : ℕ) (b : List ℕ) : Type 0 where
  pub level_is : IsLevel level
  pub head : 8 ≤ length b
  pub whole : length b ≡ size_at b

pub sized : (t : Tree) (level : ℕ) (b : List ℕ) → Parses t level b → IsSized level b
sized (scalar tag s) level b h = record { level_is = h.level_is; head = h.head; whole = h.whole }
sized (structure tag ts) level b h = record { level_is = h.level_is; head = h.head; whole = h.whole }

pub is_whole-true : (b : List ℕ) → 8 ≤ length b → length b ≡ size_at b → is_whole b ≡ true
is_whole-true b h e = rw (le-leb 8 (length b) h) (eq-eqb _ _ e)

both : (x y : Bool) → (x && y) ≡ true → (x ≡ true) × (y ≡ true)
both true y e = (refl, e)
both false y e = absurd cc

pub is_whole-says : (b : List ℕ) → is_whole b ≡ true → (8 ≤ length b) × (length b ≡ size_at b)
is_whole-says b e =
    let p = both (leb 8 (length b)) (eqb (length b) (size_at b)) e in
    (leb-true _ _ p.0, eqb-true _ _ p.1)

pub mapped : {A B : Type 0} (f : A → B) (o : Option A) (y : B) → option_map f o ≡ Some y → (x : A)
    × (o ≡ Some x) × (f x ≡ y)
mapped f (Some x) y e = (x, refl, same_Some (f x) y e)
mapped f None y e = absurd (none-some y e)

-- ---- what is computed parses

trees_with-some : (o : Option Tree) (os : Option Trees) (ts : Trees) → trees_with o os ≡ Some ts
    → (t : Tree) × (us : Trees) × (o ≡ Some t) × (os ≡ Some us) × (more t us ≡ ts)
trees_with-some None os ts e = absurd (none-some ts e)
trees_with-some (Some t) os ts e = let p = mapped (more t) os ts e in (t, p.0, refl, p.1, p.2)

abbrev IsNode : Option Trees → ℕ → Kind → List ℕ → Tree → Type 0
IsNode items tag kind v t =
    ((ts : Trees) × (kind ≡ Structure) × (items ≡ Some ts) × (structure tag ts ≡ t))
    ⊎ ((s : Scalar) × (kind_of_scalar s ≡ kind) × IsValue s v × (scalar tag s ≡ t))

scalar_node : (items : Option Trees) (tag : ℕ) (kind : Kind) (v : List ℕ) (t : Tree)
    → option_map (scalar tag) (scalar_at kind v) ≡ Some t → IsNode items tag kind v t
scalar_node items tag kind v t e =
    let p = mapped (scalar tag) (scalar_at kind v) t e in
    let q = scalar_at-sound kind v p.0 p.1 in
    inr (p.0, q.0, q.1, p.2)

node_at-sound : (items : Option Trees) (tag : ℕ) (kind : Kind) (v : List ℕ) (t : Tree)
    → node_at items tag (Some kind) v ≡ Some t → IsNode items tag kind v t
node_at-sound items tag Structure v t e = let p = mapped (structure tag) items t e in inl (p.0, refl, p.1, p.2)
node_at-sound items tag Integer v t e = scalar_node items tag Integer v t e
node_at-sound items tag LongInteger v t e = scalar_node items tag LongInteger v t e
node_at-sound items tag BigInteger v t e = scalar_node items tag BigInteger v t e
node_at-sound items tag Enumeration v t e = scalar_node items tag Enumeration v t e
node_at-sound items tag Boolean v t e = scalar_node items tag Boolean v t e
node_at-sound items tag TextString v t e = scalar_node items tag TextString v t e
node_at-sound items tag ByteString v t e = scalar_node items tag ByteString v t e
node_at-sound items tag DateTime v t e = scalar_node items tag DateTime v t e
node_at-sound items tag Interval v t e = scalar_node items tag Interval v t e

some_kind : (items : Option Trees) (tag : ℕ) (o : Option Kind) (v : List ℕ) (t : Tree)
    → node_at items tag o v ≡ Some t → (k : Kind) × (o ≡ Some k)
some_kind items tag None v t e = absurd (none-some t e)
some_kind items tag (Some k) v t e = (k, refl)

pub items_by-sound : (one : List ℕ → Option Tree) (level : ℕ)
    → ((b : List ℕ) (t : Tree) → one b ≡ Some t → Parses t level b)
    → (fuel : ℕ) (b : List ℕ) (ts : Trees) → items_by one fuel b ≡ Some ts → ParseAll ts level b
items_by-sound one level each fuel [] ts e =
    let P : Trees → Type 0 = λ us. ParseAll us level [] in subst P (same_Some none ts e) refl
items_by-sound one level each zero (x ∷ xs) ts e = absurd (none-some ts e)
items_by-sound one level each (suc fuel) (x ∷ xs) ts e =
    let b : List ℕ = x ∷ xs in
    let n : ℕ = size_at b in
    let p = trees_with-some (one (take n b)) (items_by one fuel (drop n b)) ts e in
    let first : Parses p.0 level (take n b) = each (take n b) p.0 p.2 in
    let s = sized p.0 level (take n b) first in
    let at_least : 8 ≤ n = omega (arith, s.head, length-take n b) in
    let same : size_at (take n b) ≡ n = size_at-take n b at_least in
    let within : n ≤ length b = omega (arith, s.whole, same, length-take n b) in
    let P : Trees → Type 0 = λ us. ParseAll us level b in
    subst P p.4 (n, within, first, items_by-sound one level each fuel (drop n b) p.1 p.3)

pub item_of-sound : (levels level : ℕ) → 1 ≤ level → level + levels ≡ 65 → (b : List ℕ) (t : Tree)
    → item_of levels b ≡ Some t → Parses t level b
unfolding item_of
item_of-sound zero level low sum b t e = absurd (none-some t e)
item_of-sound (suc levels) level low sum b t e =
    let v : List ℕ = value_of b in
    let items : Option Trees = items_by (item_of levels) (length v) v in
    elim (chosen (is_whole b) (node_at items (head_tag b) (kind_of (head_code b)) v) None (Some t) e) [
      | inr p ↦ absurd (none-some t p.1)
      | inl p ↦
          let w = is_whole-says b p.0 in
          let k = some_kind items (head_tag b) (kind_of (head_code b)) v t p.1 in
          let code : head_code b ≡ code_of k.0 = code_of-kind_of (head_code b) k.0 k.1 in
          let node : node_at items (head_tag b) (Some k.0) v ≡ Some t = rw k.1 at p.1 in
          let l : IsLevel level = (low, omega arith) in
          let P : Tree → Type 0 = λ u. Parses u level b in
          elim (node_at-sound items (head_tag b) k.0 v t node) [
            | inl q ↦
                subst P q.3 (record {
                  level_is = l;
                  head = w.0;
                  tag_is = refl;
                  kind_is = code ∙ ap code_of q.1;
                  whole = w.1;
                  value = items_by-sound (item_of levels) (level + 1)
                      (λ c u f. item_of-sound levels (level + 1) (omega arith) (omega arith) c u f)
                      (length v) v q.0 q.2;
                })
            | inr q ↦
                subst P q.3 (record {
                  level_is = l;
                  head = w.0;
                  tag_is = refl;
                  kind_is =
                      code ∙ ap code_of (sym q.1);
                  whole = w.1;
                  value = q.2;
                })
          ]
    ]

-- ---- what parses is computed

scalar_node-complete : (items : Option Trees) (tag : ℕ) (s : Scalar) (v : List ℕ) → IsValue s v
    → node_at items tag (Some (kind_of_scalar s)) v ≡ Some (scalar tag s)
scalar_node-complete items tag (integer z) v h = ap (option_map (scalar tag)) (scalar_at-complete (integer z) v h)
scalar_node-complete items tag (long_integer z) v h =
    ap (option_map (scalar tag)) (scalar_at-complete (long_integer z) v h)
scalar_node-complete items tag (big_integer z) v h =
    ap (option_map (scalar tag)) (scalar_at-complete (big_integer z) v h)
scalar_node-complete items tag (enumeration z) v h =
    ap (option_map (scalar tag)) (scalar_at-complete (enumeration z) v h)
scalar_node-complete items tag (boolean z) v h = ap (option_map (scalar tag)) (scalar_at-complete (boolean z) v h)
scalar_node-complete items tag (text_string z) v h =
    ap (option_map (scalar tag)) (scalar_at-complete (text_string z) v h)
scalar_node-complete items tag (byte_string z) v h =
    ap (option_map (scalar tag)) (scalar_at-complete (byte_string z) v h)
scalar_node-complete items tag (date_time z) v h = ap (option_map (scalar tag)) (scalar_at-complete (date_time z) v h)
scalar_node-complete items tag (interval z) v h = ap (option_map (scalar tag)) (scalar_at-complete (interval z) v h)

item_step : (levels : ℕ) (b : List ℕ) (k : Kind) (t : Tree) → 8 ≤ length b → length b ≡ size_at b
    → head_code b ≡ code_of k
    → node_at (items_of levels (value_of b)) (head_tag b) (Some k) (value_of b) ≡ Some t
    → item_of (suc levels) b ≡ Some t
unfolding item_of
item_step levels b k t h w c e =
    rw (is_whole-true b h w) (ap (λ o. node_at (items_of levels (value_of b)) (head_tag b) o
    (value_of b)) (ap kind_of c ∙ kind_of-code_of k) ∙ e)

mutual
  pub item_of-complete : (t : Tree) (level levels : ℕ) (b : List ℕ) → level + levels ≡ 65
      → Parses t level b → item_of levels b ≡ Some t
  item_of-complete (scalar tag s) level zero b sum h = absurd (omega (arith, h.level_is.1))
  item_of-complete (structure tag ts) level zero b sum h = absurd (omega (arith, h.level_is.1))
  item_of-complete (scalar tag s) level (suc levels) b sum h =
      item_step levels b (kind_of_scalar s) (scalar tag s) h.head h.whole h.kind_is
      (scalar_node-complete (items_of levels (value_of b)) (head_tag b) s (value_of b) h.value
      ∙ ap (λ n. Some (scalar n s)) (sym h.tag_is))
  item_of-complete (structure tag ts) level (suc levels) b sum h =
      item_step levels b Structure (structure tag ts) h.head h.whole h.kind_is
      (ap (option_map (structure (head_tag b)))
      (items_by-complete ts (level + 1) levels (value_of b) (length (value_of b)) (omega arith)
      (omega arith) h.value)
      ∙ ap (λ n. Some (structure n ts)) (sym h.tag_is))

  pub items_by-complete : (ts : Trees) (level levels : ℕ) (b : List ℕ) (fuel : ℕ)
      → level + levels ≡ 65 → length b ≤ fuel → ParseAll ts level b
      → items_by (item_of levels) fuel b ≡ Some ts
  items_by-complete none level levels b fuel sum enough h = rw h refl
  items_by-complete (more t ts) level levels [] fuel sum enough (n, le, p, q) =
      let empty : List ℕ = [] in let s = sized t level (take n empty) p in
      absurd (omega (arith, s.head, length-take n empty))
  items_by-complete (more t ts) level levels (x ∷ xs) zero sum enough (n, le, p, q) = absurd (omega arith)
  items_by-complete (more t ts) level levels (x ∷ xs) (suc fuel) sum enough (n, le, p, q) =
      let b : List ℕ = x ∷ xs in
      let s = sized t level (take n b) p in
      let long : length (take n b) ≡ n = length-take-le n b le in
      let at_least : 8 ≤ n = omega (arith, s.head, long) in
      let same : size_at b ≡ n = sym (size_at-take n b at_least) ∙ sym s.whole ∙ long in
      let first : item_of levels (take n b) ≡ Some t = item_of-complete t level levels (take n b) sum p in
      let rest : items_by (item_of levels) fuel (drop n b) ≡ Some ts =
      items_by-complete ts level levels (drop n b) fuel sum
      (omega (arith, length-drop n b)) q in
      ap (λ k. trees_with (item_of levels (take k b)) (items_by (item_of levels) fuel (drop k b))) same
      ∙ ap (λ o. trees_with o (items_by (item_of levels) fuel (drop n b))) first
      ∙ ap (λ o. option_map (more t) o) rest

-- ---- one text, one tree

pub empty_at : (xs : List ℕ) → length xs ≡ 0 → xs ≡ []
empty_at [] e = refl
empty_at (x ∷ xs) e = absurd (omega (arith, e))

pub one_tree : (t u : Tree) (level : ℕ) (b : List ℕ) → Parses t level b → Parses u level b → t ≡ u
one_tree t u level b p q =
    let l = (sized t level b p).level_is in
    let sum : level + (65 - level) ≡ 65 = omega (arith, l.0, l.1) in
    same_Some t u (sym (item_of-complete t level (65 - level) b sum p) ∙ item_of-complete u level (65 - level) b sum q)

pub no_longer : (t u : Tree) (level other : ℕ) (b rest : List ℕ) → Parses t level b
    → Parses u other (b ++ rest) → rest ≡ []
no_longer t u level other b rest p q =
    let s = sized t level b p in
    let r = sized u other (b ++ rest) q in
    let front : take (length b) (b ++ rest) ≡ b = take_at b rest (length b) refl in
    let same : size_at (b ++ rest) ≡ size_at b = sym (size_at-take (length b) (b ++ rest) s.head) ∙ ap size_at front in
    empty_at rest (omega (arith, s.whole, r.whole, same, length-append b rest))

-- a list of texts is determined by their concatenation

same_first : (t u : Tree) (level : ℕ) (b c x y : List ℕ) → Parses t level b → Parses u level c → b ++ x ≡ c ++ y → b ≡ c
same_first t u level b c x y p q e =
    let s = sized t level b p in
    let r = sized u level c q in
    let all : List ℕ = b ++ x in
    let front : take (length b) all ≡ b = take_at b x (length b) refl in
    let other : take (length c) all ≡ c = ap (take (length c)) e ∙ take_at c y (length c) refl in
    let m : size_at all ≡ length b = sym (size_at-take (length b) all s.head) ∙ ap size_at front ∙ sym s.whole in
    let n : size_at all ≡ length c = sym (size_at-take (length c) all r.head) ∙ ap size_at other ∙ sym r.whole in
    sym front ∙ ap (λ k. take k all) (sym m ∙ n) ∙ other

pub one_split : (level : ℕ) (bs cs : List (List ℕ)) → AreTexts level bs → AreTexts level cs
    → joined_texts bs ≡ joined_texts cs → bs ≡ cs
one_split level [] [] h k e = refl
one_split level [] (c ∷ cs) h k e =
    let s = sized k.0.0 level c k.0.1 in
    absurd (omega (arith, s.head, ap length e, length-append c (joined_texts cs)))
one_split level (b ∷ bs) [] h k e =
    let s = sized h.0.0 level b h.0.1 in
    absurd (omega (arith, s.head, ap length e, length-append b (joined_texts bs)))
one_split level (b ∷ bs) (c ∷ cs) h k e =
    let first : b ≡ c = same_first h.0.0 k.0.0 level b c (joined_texts bs) (joined_texts cs) h.0.1 k.0.1 e in
    let rest : joined_texts bs ≡ joined_texts cs =
    sym (drop_at b (joined_texts bs) (length b) refl) ∙ ap (drop (length b)) e
    ∙ ap (λ n. drop n (c ++ joined_texts cs)) (ap length first)
    ∙ drop_at c (joined_texts cs) (length c) refl in
    ap (λ x. x ∷ bs) first ∙ ap (λ xs. c ∷ xs) (one_split level bs cs h.1 k.1 rest)

-- ---- fronts

pub some_of : {A : Type 0} (o : Option A) → is_some o ≡ true → (x : A) × (o ≡ Some x)
some_of None e = absurd cc
some_of (Some x) e = (x, refl)

-- an item at the front is as long as its head says
pub front_size : (t : Tree) (level n : ℕ) (b : List ℕ) → n ≤ length b → Parses t level (take n b) → size_at b ≡ n
front_size t level n b le p =
    let s = sized t level (take n b) p in
    let long : length (take n b) ≡ n = length-take-le n b le in
    sym (size_at-take n b (omega (arith, s.head, long))) ∙ sym s.whole ∙ long

front_within : (t : Tree) (level : ℕ) (b : List ℕ) → Parses t level (take (size_at b) b) → size_at b ≤ length b
front_within t level b p =
    let m : ℕ = size_at b in
    let s = sized t level (take m b) p in
    omega (arith, s.whole, size_at-take m b (omega (arith, s.head, length-take m b)), length-take m b)

-- the tree at the front is the one that some first bytes parse as
pub front_computed : (t : Tree) (level : ℕ) (b : List ℕ) → IsLevel level
    → (front_at level b ≡ Some t) ↔ ((n : ℕ) × (n ≤ length b) × Parses t level (take n b))
front_computed t level b l = (read, found)
  where
    read : front_at level b ≡ Some t → (n : ℕ) × (n ≤ length b) × Parses t level (take n b)
    read e =
        let p : Parses t level (take (size_at b) b) =
        item_of-sound (65 - level) level l.0 (omega (arith, l.1)) (take (size_at b) b) t e in
        (size_at b, front_within t level b p, p)

    found : ((n : ℕ) × (n ≤ length b) × Parses t level (take n b)) → front_at level b ≡ Some t
    found (n, le, p) =
        ap (λ k. item_of (65 - level) (take k b)) (front_size t level n b le p)
        ∙ item_of-complete t level (65 - level) (take n b) (omega (arith, l.0, l.1)) p

pub front_of-sound : (level n : ℕ) (b : List ℕ) → IsLevel level → front_of (65 - level) b ≡ Some n → IsFront level b n
front_of-sound level n b l e =
    let m : ℕ = size_at b in
    let p = cond_some (is_some (item_of (65 - level) (take m b))) m n e in
    let t = some_of (item_of (65 - level) (take m b)) p.0 in
    let h : Parses t.0 level (take m b) =
    item_of-sound (65 - level) level l.0 (omega (arith, l.1)) (take m b) t.0 t.1 in
    let P : ℕ → Type 0 = λ k. IsFront level b k in
    subst P p.1 (front_within t.0 level b h, (t.0, h))

pub front_of-complete : (level n : ℕ) (b : List ℕ) → IsFront level b n → front_of (65 - level) b ≡ Some n
front_of-complete level n b (le, (t, p)) =
    let l = (sized t level (take n b) p).level_is in
    ap (λ k. cond (is_some (item_of (65 - level) (take k b))) (Some k) None) (front_size t level n b le p)
    ∙ ap (λ o. cond (is_some o) (Some n) None)
    (item_of-complete t level (65 - level) (take n b) (omega (arith, l.0, l.1)) p)

head_code-take : (n : ℕ) (b : List ℕ) → 8 ≤ n → head_code (take n b) ≡ head_code b
head_code-take n b h = get_or-take n b 3 0 (omega arith)

pub head_tag-take : (n : ℕ) (b : List ℕ) → 8 ≤ n → head_tag (take n b) ≡ head_tag b
unfolding head_tag
head_tag-take n b h = rw (get_or-take n b 0 0 (omega arith))
    (rw (get_or-take n b 1 0 (omega arith)) (rw (get_or-take n b 2 0 (omega arith)) refl))

pub take_take : (k m : ℕ) (l : List ℕ) → k ≤ m → take k (take m l) ≡ take k l
take_take zero m l h = refl
take_take (suc k) (suc m) (x ∷ xs) h = ap (λ ys. x ∷ ys) (take_take k m xs (omega arith))
take_take (suc k) (suc m) [] h = refl
take_take (suc k) zero l h = absurd (omega arith)

pub value_of-take : (n : ℕ) (b : List ℕ) → 8 + head_length b ≤ n → value_of (take n b) ≡ value_of b
value_of-take n b h =
    let split : 8 + (n - 8) ≡ n = omega arith in
    ap (λ k. take k (drop 8 (take n b))) (head_length-take n b (omega arith))
    ∙ ap (λ k. take (head_length b) (drop 8 (take k b))) (sym split)
    ∙ ap (take (head_length b)) (drop-take 8 (n - 8) b)
    ∙ take_take (head_length b) (n - 8) (drop 8 b) (omega arith)

pub is_some-map : {A B : Type 0} (f : A → B) (o : Option A) → is_some (option_map f o) ≡ is_some o
is_some-map f None = refl
is_some-map f (Some x) = refl

pub is_some-node_at : (items : Option Trees) (tag : ℕ) (o : Option Kind) (v : List ℕ)
    → is_some (node_at items tag o v) ≡ well_formed (is_some items) o v
is_some-node_at items tag None v = refl
is_some-node_at items tag (Some Structure) v = is_some-map (structure tag) items
is_some-node_at items tag (Some Integer) v = is_some-map (scalar tag) (scalar_at Integer v)
is_some-node_at items tag (Some LongInteger) v = is_some-map (scalar tag) (scalar_at LongInteger v)
is_some-node_at items tag (Some BigInteger) v = is_some-map (scalar tag) (scalar_at BigInteger v)
is_some-node_at items tag (Some Enumeration) v = is_some-map (scalar tag) (scalar_at Enumeration v)
is_some-node_at items tag (Some Boolean) v = is_some-map (scalar tag) (scalar_at Boolean v)
is_some-node_at items tag (Some TextString) v = is_some-map (scalar tag) (scalar_at TextString v)
is_some-node_at items tag (Some ByteString) v = is_some-map (scalar tag) (scalar_at ByteString v)
is_some-node_at items tag (Some DateTime) v = is_some-map (scalar tag) (scalar_at DateTime v)
is_some-node_at items tag (Some Interval) v = is_some-map (scalar tag) (scalar_at Interval v)

sure : (b : Bool) → cond b true false ≡ b
sure true = refl
sure false = refl

no_short : (levels : ℕ) (b : List ℕ) → length b < 8 → is_some (item_of levels b) ≡ true → ⊥
unfolding item_of
no_short zero b h e = cc
no_short (suc levels) b h e =
    let item = some_of (item_of (suc levels) b) e in
    elim (chosen (is_whole b) (node_at (items_of levels (value_of b)) (head_tag b)
    (kind_of (head_code b)) (value_of b)) None (Some item.0) item.1) [
      | inl p ↦ omega (arith, (is_whole-says b p.0).0)
      | inr p ↦ none-some item.0 p.1
    ]

-- where all the bytes are there, its type and its value decide whether there is an item at the front
pub item_step_says : (levels : ℕ) (b : List ℕ) → 8 ≤ length b → size_at b ≤ length b
    → is_some (item_of (suc levels) (take (size_at b) b))
    ≡ well_formed (is_some (items_of levels (value_of b))) (kind_of (head_code b)) (value_of b)
unfolding item_of
item_step_says levels b h le =
    let n : ℕ = size_at b in
    let w : List ℕ = take n b in
    let long : length w ≡ n = length-take-le n b le in
    let whole : is_whole w ≡ true = is_whole-true w (omega (arith, long))
    (long ∙ sym (size_at-take n b (omega arith))) in
    let value : value_of w ≡ value_of b = value_of-take n b (omega arith) in
    let node = is_some-node_at (items_of levels (value_of w)) (head_tag w) (kind_of (head_code w)) (value_of w) in
    let opened : is_some (item_of (suc levels) w)
    ≡ well_formed (is_some (items_of levels (value_of w))) (kind_of (head_code w))
    (value_of w) = rw whole node in
    opened ∙ ap (λ v. well_formed (is_some (items_of levels v)) (kind_of (head_code w)) v) value
    ∙ ap (λ c. well_formed (is_some (items_of levels (value_of b))) (kind_of c) (value_of b))
    (head_code-take n b (omega arith))

pub front_step : (levels : ℕ) (b : List ℕ) → 8 ≤ length b → size_at b ≤ length b
    → front_of (suc levels) b ≡ cond
    (well_formed (is_some (items_of levels (value_of b))) (kind_of (head_code b)) (value_of b))
    (Some (size_at b)) None
front_step levels b h le = ap (λ t. cond t (Some (size_at b)) None) (item_step_says levels b h le)

-- where they are not, there is none
pub front_short : (levels : ℕ) (b : List ℕ) → (8 ≤ length b → length b < size_at b) → front_of levels b ≡ None
unfolding item_of
front_short zero b h = refl
front_short (suc levels) b h =
    let w : List ℕ = take (size_at b) b in
    elim (chosen (is_whole w) true false (is_whole w) (sure (is_whole w))) [
      | inl p ↦
          let s = is_whole-says w p.0 in
          let same : size_at w ≡ size_at b = size_at-take (size_at b) b (omega arith) in
          absurd (omega (arith, s.0, s.1, same, length-take (size_at b) b, h))
      | inr p ↦ rw p.0 refl
    ]

pub front_deep : (levels : ℕ) (b : List ℕ) → levels ≡ 0 → front_of levels b ≡ None
unfolding item_of
front_deep zero b e = refl
front_deep (suc n) b e = absurd (omega (arith, e))

pub items_by-fuel : (one : List ℕ → Option Tree) (f g : ℕ) (b : List ℕ) → length b ≤ f
    → length b ≤ g → items_by one f b ≡ items_by one g b
items_by-fuel one f g [] p q = refl
items_by-fuel one zero g (x ∷ xs) p q = absurd (omega arith)
items_by-fuel one (suc f) zero (x ∷ xs) p q = absurd (omega arith)
items_by-fuel one (suc f) (suc g) (x ∷ xs) p q =
    let b : List ℕ = x ∷ xs in
    let n : ℕ = size_at b in
    ap (trees_with (one (take n b)))
    (items_by-fuel one f g (drop n b) (omega (arith, length-drop n b))
    (omega (arith, length-drop n b)))

is_some-trees_with : (o : Option Tree) (os : Option Trees) → is_some o ≡ true → is_some (trees_with o os) ≡ is_some os
is_some-trees_with None os e = absurd cc
is_some-trees_with (Some t) os e = is_some-map (more t) os

none_joined : (o : Option Tree) (os : Option Trees) → is_some o ≡ false → is_some (trees_with o os) ≡ false
none_joined None os e = refl
none_joined (Some t) os e = absurd cc

pub items_step : (levels n : ℕ) (b : List ℕ) → front_of levels b ≡ Some n
    → is_some (items_of levels (drop n b)) ≡ is_some (items_of levels b)
items_step levels n [] e =
    let empty : List ℕ = [] in
    let m : ℕ = size_at empty in
    let p = cond_some (is_some (item_of levels (take m empty))) m n e in
    absurd (no_short levels (take m empty) (omega (arith, length-take m empty)) p.0)
items_step levels n (x ∷ xs) e =
    let b : List ℕ = x ∷ xs in
    let m : ℕ = size_at b in
    let p = cond_some (is_some (item_of levels (take m b))) m n e in
    ap (λ k. is_some (items_of levels (drop k b))) (sym p.1)
    ∙ ap is_some (items_by-fuel (item_of levels) (length (drop m b)) (length xs) (drop m b)
    (omega arith) (omega (arith, length-drop m b)))
    ∙ sym (is_some-trees_with (item_of levels (take m b)) (items_by (item_of levels) (length xs) (drop m b)) p.0)

pub items_stop : (levels : ℕ) (b : List ℕ) → 0 < length b → front_of levels b ≡ None
    → is_some (items_of levels b) ≡ false
items_stop levels [] lt e = absurd (omega arith)
items_stop levels (x ∷ xs) lt e =
    let b : List ℕ = x ∷ xs in
    let m : ℕ = size_at b in
    elim (chosen (is_some (item_of levels (take m b))) (Some m) None None e) [
      | inl p ↦ absurd (none-some m (sym p.1))
      | inr p ↦ none_joined (item_of levels (take m b)) (items_by (item_of levels) (length xs) (drop m b)) p.0
    ]

-- what the code's steps give
pub front_is : (level : ℕ) (b v : List ℕ) (k : Kind) (r : Bool) → level ≤ 64 → 8 ≤ length b
    → size_at b ≤ length b → kind_of (head_code b) ≡ Some k → v ≡ value_of b
    → r ≡ well_formed (is_some (items_of (64 - level) v)) (Some k) v
    → front_of (65 - level) b ≡ cond r (Some (size_at b)) None
front_is level b v k r l h le kind value e =
    let n : 65 - level ≡ suc (64 - level) = omega arith in
    let said : r ≡ well_formed (is_some (items_of (64 - level) (value_of b))) (kind_of (head_code b)) (value_of b) =
    e ∙ ap (λ w. well_formed (is_some (items_of (64 - level) w)) (Some k) w) value
    ∙ ap (λ o. well_formed (is_some (items_of (64 - level) (value_of b))) o (value_of b))
    (sym kind) in
    ap (λ d. front_of d b) n ∙ front_step (64 - level) b h le ∙ ap (λ t. cond t (Some (size_at b)) None) (sym said)

pub front_unkind : (level : ℕ) (b : List ℕ) → level ≤ 64 → 8 ≤ length b → size_at b ≤ length b
    → kind_of (head_code b) ≡ None → front_of (65 - level) b ≡ None
front_unkind level b l h le kind =
    let n : 65 - level ≡ suc (64 - level) = omega arith in
    ap (λ d. front_of d b) n ∙ front_step (64 - level) b h le
    ∙ ap (λ o. cond (well_formed (is_some (items_of (64 - level) (value_of b))) o (value_of b))
    (Some (size_at b)) None) kind

-- which fronts there are
pub fronts : (level : ℕ) (b : List ℕ) (o : Option ℕ) → IsLevel level → o ≡ front_of (65 - level) b
    → MatchOption o (NoFront level b) (IsFront level b)
fronts level b (Some n) l e = front_of-sound level n b l (sym e)
fronts level b None l e = λ n h. none-some n (e ∙ front_of-complete level n b h)

whole_front : (t : Tree) (b : List ℕ) → Parses t 1 b → IsFront 1 b (length b)
whole_front t b h = let P : List ℕ → Type 0 = λ c. Parses t 1 c in (omega arith, (t, subst P (sym (take-length b)) h))

pub is_all : (b : List ℕ) (n : ℕ) → front_of 64 b ≡ Some n → IsTrue (eqb n (length b)) ↔ ((t : Tree) × Parses t 1 b)
is_all b n e =
    let l : IsLevel 1 = (omega arith, omega arith) in
    let f = front_of-sound 1 n b l e in
    let P : ℕ → Type 0 = λ k. Parses f.1.0 1 (take k b) in
    let Q : List ℕ → Type 0 = λ c. Parses f.1.0 1 c in (
      λ i. (f.1.0, subst Q (take-length b) (subst P (eqb-true n (length b) i) f.1.1)),
      λ h. eq-eqb _ _ (same_Some n (length b) (sym e ∙ front_of-complete 1 (length b) b (whole_front h.0 b h.1))),
    )

pub is_none : (b : List ℕ) → front_of 64 b ≡ None → IsTrue false ↔ ((t : Tree) × Parses t 1 b)
is_none b e = (
  λ i. absurd cc,
  λ h.
      absurd (none-some (length b) (sym e ∙ front_of-complete 1 (length b) b
      (whole_front h.0 b h.1))),
)

pub tree_computed : (t : Tree) (level : ℕ) (b : List ℕ) → IsLevel level
    → (item_of (65 - level) b ≡ Some t) ↔ Parses t level b
tree_computed t level b l = (
  λ e. item_of-sound (65 - level) level l.0 (omega (arith, l.1)) b t e,
  λ h. item_of-complete t level (65 - level) b (omega (arith, l.0, l.1)) h,
)
