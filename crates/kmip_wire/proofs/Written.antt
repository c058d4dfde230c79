-- What is written parses as the tree that it was written for.
use Rattle.std.proofs.Common.{◌≡◌, ℕ, ◌+◌, ◌≤◌, ◌<◌, ◌^◌, ◌&&◌, Bool, true, false, cond, ltb, List, [], ◌++◌, length, take, drop, replicate, Option, Some, None, refl, sym, ap, subst, ◌∙◌, arith}
use Rattle.std.specs.Prelude.{ℤ, FitsSigned}
use Rattle.std.specs.Int.{w32, w64, from_be_bytes, to_be_bytes, cast_signed, cast_unsigned}
use Rattle.std.proofs.lemmas.Bool.{eqb-true}
use Rattle.std.proofs.lemmas.Option.{cond_some, same_Some, none-some}
use Rattle.std.proofs.lemmas.Nat.{from_be_bytes-to_be_bytes_4, from_be_bytes-to_be_bytes_8}
use Rattle.std.proofs.lemmas.Int.{to_z-of_z, ints}
use Rattle.std.proofs.lemmas.List.{take_at, drop_at, length-append}
use Rattle.kmip_wire.specs.declared.kind.Kind.{Kind}
use Rattle.kmip_wire.specs.declared.kind.Kind.TheVariants.{Structure}
use Rattle.kmip_wire.specs.Tree.{Tree, Trees, scalar, structure, none, more, Scalar, integer, long_integer, big_integer, enumeration, boolean, text_string, byte_string, date_time, interval}
use Rattle.kmip_wire.specs.Kinds.{code_of, kind_of, kind_of_scalar}
use Rattle.kmip_wire.specs.Head.{pads, head_tag, head_code, head_length, size_at, value_of}
use Rattle.kmip_wire.specs.Parses.{IsValue, IsLevel, IsItem, Parses, ParseAll}
use Rattle.kmip_wire.specs.Reading.{scalar_at}
use Rattle.kmip_wire.specs.Parts.{tag_of, kind_of_tree}
use Rattle.kmip_wire.specs.Contents.{fitting, value_of_tree}
use Rattle.kmip_wire.specs.Bytes.{value_bytes, has_form, item_bytes, bytes, all_bytes, levels, levels_of_all, IsInRange, HasRanges, HaveRanges}
use Rattle.kmip_wire.proofs.Values.{kind_of-code_of, scalar_at-complete}
use Rattle.kmip_wire.proofs.Computed.{mapped, size_at-take}
use Rattle.kmip_wire.proofs.Writing.{item_bytes-length, bytes_are, both_some, value_short}

-- ---- what the bytes of an item say

item_bytes-head_tag : (tag code : ℕ) (v : List ℕ) → tag < 2 ^ 24 → head_tag (item_bytes tag code v) ≡ tag
unfolding item_bytes head_tag
item_bytes-head_tag tag code v h = omega (arith, from_be_bytes-to_be_bytes_4 tag (omega arith))

item_bytes-head_length : (tag code : ℕ) (v : List ℕ) → length v < 2 ^ 32
    → head_length (item_bytes tag code v) ≡ length v
unfolding item_bytes head_length
item_bytes-head_length tag code v h = from_be_bytes-to_be_bytes_4 (length v) h

item_bytes-head_code : (tag code : ℕ) (v : List ℕ) → head_code (item_bytes tag code v) ≡ code
unfolding item_bytes
item_bytes-head_code tag code v = refl

item_bytes-value : (tag code : ℕ) (v : List ℕ) → length v < 2 ^ 32 → value_of (item_bytes tag code v) ≡ v
unfolding item_bytes
item_bytes-value tag code v h =
    ap (λ k. take k (drop 8 (item_bytes tag code v))) (item_bytes-head_length tag code v h)
    ∙ take_at v (replicate (pads (length v)) 0) (length v) refl

item_bytes-size : (tag code : ℕ) (v : List ℕ) → length v < 2 ^ 32
    → length (item_bytes tag code v) ≡ size_at (item_bytes tag code v)
item_bytes-size tag code v h = omega (
  arith,
  item_bytes-length tag code v,
  ap (λ k. 8 + k + pads k) (item_bytes-head_length tag code v h),
)

item_parses : (V : List ℕ → Type 0) (level tag : ℕ) (kind : Kind) (v : List ℕ) → IsLevel level
    → tag < 2 ^ 24 → length v < 2 ^ 32 → V v
    → IsItem level tag kind V (item_bytes tag (code_of kind) v)
item_parses V level tag kind v l t short h = record {
  level_is = l;
  head = omega (arith, item_bytes-length tag (code_of kind) v);
  tag_is = sym (item_bytes-head_tag tag (code_of kind) v t);
  kind_is = item_bytes-head_code tag (code_of kind) v;
  whole = item_bytes-size tag (code_of kind) v short;
  value = subst V (sym (item_bytes-value tag (code_of kind) v short)) h;
}

-- ---- what the bytes of a value say

truth : (b : Bool) → from_be_bytes w64 (to_be_bytes w64 (cond b 1 0)) ≡ cond b 1 0
truth true = refl
truth false = refl

signed_fits32 : (z : ℤ) → FitsSigned w32 z → cast_unsigned w32 z < 2 ^ 32
signed_fits32 z h = omega (arith, ints, h)

signed_fits64 : (z : ℤ) → FitsSigned w64 z → cast_unsigned w64 z < 2 ^ 64
signed_fits64 z h = omega (arith, ints, h)

value_is : (s : Scalar) → IsInRange s → has_form s ≡ true → IsValue s (value_bytes s)
value_is (integer z) h f = (
  refl,
  sym (to_z-of_z w32 z h) ∙ ap (cast_signed w32)
      (sym (from_be_bytes-to_be_bytes_4 (cast_unsigned w32 z) (signed_fits32 z h))),
)
value_is (long_integer z) h f = (
  refl,
  sym (to_z-of_z w64 z h) ∙ ap (cast_signed w64)
      (sym (from_be_bytes-to_be_bytes_8 (cast_unsigned w64 z) (signed_fits64 z h))),
)
value_is (big_integer b) h f = (eqb-true _ _ f, refl)
value_is (enumeration n) h f = (refl, sym (from_be_bytes-to_be_bytes_4 n h))
value_is (boolean b) h f = (refl, truth b)
value_is (text_string b) h f = (h, refl)
value_is (byte_string b) h f = refl
value_is (date_time n) h f = (refl, sym (from_be_bytes-to_be_bytes_8 n h))
value_is (interval n) h f = (refl, sym (from_be_bytes-to_be_bytes_4 n h))

both : (x y : Bool) → (x && y) ≡ true → (x ≡ true) × (y ≡ true)
both true y e = (refl, e)
both false y e = absurd cc

-- ---- the value of a tree that has bytes

scalar_value : (tag : ℕ) (s : Scalar) (v : List ℕ) → value_of_tree (scalar tag s) ≡ Some v
    → (has_form s ≡ true) × (value_bytes s ≡ v)
scalar_value tag s v e =
    let p = cond_some (has_form s && ltb (length (value_bytes s)) (2 ^ 32)) (value_bytes s) v e in
    ((both (has_form s) (ltb (length (value_bytes s)) (2 ^ 32)) p.0).0, p.1)

fitting_some : (o : Option (List ℕ)) (v : List ℕ) → fitting o ≡ Some v → o ≡ Some v
fitting_some None v e = absurd (none-some v e)
fitting_some (Some w) v e = ap (λ x. Some x) (cond_some (ltb (length w) (2 ^ 32)) w v e).1

record HasBytes (t : Tree) (b : List ℕ) : Type 0 where
  value : List ℕ
  value_is : value_of_tree t ≡ Some value
  short : length value < 2 ^ 32
  all : item_bytes (tag_of t) (code_of (kind_of_tree t)) value ≡ b

has_bytes : (t : Tree) (b : List ℕ) → bytes t ≡ Some b → HasBytes t b
has_bytes t b e =
    let p = mapped (item_bytes (tag_of t) (code_of (kind_of_tree t))) (value_of_tree t) b (sym (bytes_are t) ∙ e) in
    record { value = p.0; value_is = p.1; short = value_short t p.0 p.1; all = p.2 }

-- ---- canonical bytes parse back

mutual
  pub written_parses : (t : Tree) (level : ℕ) (b : List ℕ) → HasRanges t → 1 ≤ level
      → levels t + level ≤ 65 → bytes t ≡ Some b → Parses t level b
  written_parses (scalar tag s) level b h low deep e =
      let p = has_bytes (scalar tag s) b e in
      let q = scalar_value tag s p.value p.value_is in
      let V : List ℕ → Type 0 = λ v. IsValue s v in
      let P : List ℕ → Type 0 = λ c. IsItem level tag (kind_of_scalar s) V c in
      subst P p.all (item_parses V level tag (kind_of_scalar s) p.value
      (low, omega arith) h.0 p.short (subst V q.1 (value_is s h.1 q.0)))
  written_parses (structure tag ts) level b h low deep e =
      let p = has_bytes (structure tag ts) b e in
      let V : List ℕ → Type 0 = λ v. ParseAll ts (level + 1) v in
      let P : List ℕ → Type 0 = λ c. IsItem level tag Structure V c in
      subst P p.all (item_parses V level tag Structure p.value (low, omega arith) h.0 p.short
      (all_written_parse ts (level + 1) p.value h.1 (omega arith) (omega arith)
      (fitting_some (all_bytes ts) p.value p.value_is)))

  pub all_written_parse : (ts : Trees) (level : ℕ) (b : List ℕ) → HaveRanges ts → 1 ≤ level
      → levels_of_all ts + level ≤ 65 → all_bytes ts ≡ Some b → ParseAll ts level b
  all_written_parse none level b h low deep e = let empty : List ℕ = [] in sym (same_Some empty b e)
  all_written_parse (more t ts) level b h low deep e =
      let p = both_some (bytes t) (all_bytes ts) b e in
      let x : List ℕ = p.0 in
      let y : List ℕ = p.1 in
      let first : Parses t level x = written_parses t level x h.0 low (omega arith) p.2 in
      let rest : ParseAll ts level y = all_written_parse ts level y h.1 low (omega arith) p.3 in
      let P : List ℕ → Type 0 = λ c. Parses t level c in
      let Q : List ℕ → Type 0 = λ c. ParseAll ts level c in
      let R : List ℕ → Type 0 = λ c. ParseAll (more t ts) level c in
      subst R p.4 (
        length x,
        omega (arith, length-append x y),
        subst P (sym (take_at x y (length x) refl)) first,
        subst Q (sym (drop_at x y (length x) refl)) rest,
      )

-- ---- trees of the same bytes are equal, at any depth

tag_range : (t : Tree) → HasRanges t → tag_of t < 2 ^ 24
tag_range (scalar tag s) h = h.0
tag_range (structure tag ts) h = h.0

code_inj : (k l : Kind) → code_of k ≡ code_of l → k ≡ l
code_inj k l e = same_Some k l (sym (kind_of-code_of k) ∙ ap kind_of e ∙ kind_of-code_of l)

record Agree (t u : Tree) (v w : List ℕ) : Type 0 where
  tags : tag_of t ≡ tag_of u
  kinds : kind_of_tree t ≡ kind_of_tree u
  values : v ≡ w

agree : (t u : Tree) (b : List ℕ) → HasRanges t → HasRanges u → (p : HasBytes t b)
    → (q : HasBytes u b) → Agree t u p.value q.value
agree t u b h k p q =
    let ct : ℕ = code_of (kind_of_tree t) in
    let cu : ℕ = code_of (kind_of_tree u) in
    let same : item_bytes (tag_of t) ct p.value ≡ item_bytes (tag_of u) cu q.value = p.all ∙ sym q.all in
    record {
      tags = sym (item_bytes-head_tag (tag_of t) ct p.value (tag_range t h)) ∙ ap head_tag same
          ∙ item_bytes-head_tag (tag_of u) cu q.value (tag_range u k);
      kinds = code_inj (kind_of_tree t) (kind_of_tree u)
          (sym (item_bytes-head_code (tag_of t) ct p.value) ∙ ap head_code same
          ∙ item_bytes-head_code (tag_of u) cu q.value);
      values = sym (item_bytes-value (tag_of t) ct p.value p.short) ∙ ap value_of same
          ∙ item_bytes-value (tag_of u) cu q.value q.short;
    }

no_structure : (s : Scalar) → kind_of_scalar s ≡ Structure → ⊥
no_structure (integer z) e = cc
no_structure (long_integer z) e = cc
no_structure (big_integer z) e = cc
no_structure (enumeration z) e = cc
no_structure (boolean z) e = cc
no_structure (text_string z) e = cc
no_structure (byte_string z) e = cc
no_structure (date_time z) e = cc
no_structure (interval z) e = cc

same_scalar : (s r : Scalar) (v : List ℕ) → kind_of_scalar s ≡ kind_of_scalar r → IsValue s v → IsValue r v → s ≡ r
same_scalar s r v e h k = same_Some s r
    (sym (scalar_at-complete s v h) ∙ ap (λ j. scalar_at j v) e ∙ scalar_at-complete r v k)

-- the first of some items ends where its head says
record First (t : Tree) (b x : List ℕ) : Type 0 where
  long : 8 ≤ length x
  size : length x ≡ size_at b
  front : take (length x) b ≡ x

first : (t : Tree) (x y : List ℕ) → bytes t ≡ Some x → First t (x ++ y) x
first t x y e =
    let p = has_bytes t x e in
    let ct : ℕ = code_of (kind_of_tree t) in
    let size : length x ≡ size_at x = ap length (sym p.all)
    ∙ item_bytes-size (tag_of t) ct p.value p.short ∙ ap size_at p.all in
    let front : take (length x) (x ++ y) ≡ x = take_at x y (length x) refl in
    let long : 8 ≤ length x = omega (arith, ap length p.all, item_bytes-length (tag_of t) ct p.value) in
    record { long = long; size = size ∙ ap size_at (sym front) ∙ size_at-take (length x) (x ++ y) long; front = front }

mutual
  pub one_text : (t u : Tree) (b : List ℕ) → HasRanges t → HasRanges u → bytes t ≡ Some b → bytes u ≡ Some b → t ≡ u
  one_text (scalar tag s) (scalar other r) b h k e f =
      let p = has_bytes (scalar tag s) b e in
      let q = has_bytes (scalar other r) b f in
      let a = agree (scalar tag s) (scalar other r) b h k p q in
      let v = scalar_value tag s p.value p.value_is in
      let w = scalar_value other r q.value q.value_is in
      let S : List ℕ → Type 0 = λ x. IsValue s x in
      let R : List ℕ → Type 0 = λ x. IsValue r x in
      let same : s ≡ r = same_scalar s r q.value a.kinds
      (subst S (v.1 ∙ a.values) (value_is s h.1 v.0)) (subst R w.1 (value_is r k.1 w.0)) in
      λ i. scalar (a.tags i) (same i)
  one_text (structure tag ts) (structure other us) b h k e f =
      let p = has_bytes (structure tag ts) b e in
      let q = has_bytes (structure other us) b f in
      let a = agree (structure tag ts) (structure other us) b h k p q in
      let same : ts ≡ us =
      one_texts ts us q.value h.1 k.1
      (fitting_some (all_bytes ts) p.value p.value_is ∙ ap (λ x. Some x) a.values)
      (fitting_some (all_bytes us) q.value q.value_is) in
      λ i. structure (a.tags i) (same i)
  one_text (scalar tag s) (structure other us) b h k e f =
      absurd (no_structure s (agree (scalar tag s) (structure other us) b h k
      (has_bytes (scalar tag s) b e) (has_bytes (structure other us) b f)).kinds)
  one_text (structure tag ts) (scalar other r) b h k e f =
      absurd (no_structure r (sym (agree (structure tag ts) (scalar other r) b h k
      (has_bytes (structure tag ts) b e) (has_bytes (scalar other r) b f)).kinds))

  pub one_texts : (ts us : Trees) (b : List ℕ) → HaveRanges ts → HaveRanges us
      → all_bytes ts ≡ Some b → all_bytes us ≡ Some b → ts ≡ us
  one_texts none none b h k e f = refl
  one_texts none (more u us) b h k e f =
      let q = both_some (bytes u) (all_bytes us) b f in
      absurd (omega (
        arith,
        (first u q.0 q.1 q.2).long,
        ap length q.4,
        length-append q.0 q.1,
        ap length (same_Some [] b e),
      ))
  one_texts (more t ts) none b h k e f =
      let p = both_some (bytes t) (all_bytes ts) b e in
      absurd (omega (
        arith,
        (first t p.0 p.1 p.2).long,
        ap length p.4,
        length-append p.0 p.1,
        ap length (same_Some [] b f),
      ))
  one_texts (more t ts) (more u us) b h k e f =
      let p = both_some (bytes t) (all_bytes ts) b e in
      let q = both_some (bytes u) (all_bytes us) b f in
      let m = first t p.0 p.1 p.2 in
      let n = first u q.0 q.1 q.2 in
      let size : length p.0 ≡ length q.0 = m.size ∙ ap size_at (p.4 ∙ sym q.4) ∙ sym n.size in
      let x : p.0 ≡ q.0 = sym m.front ∙ ap (take (length p.0)) (p.4 ∙ sym q.4)
      ∙ ap (λ j. take j (q.0 ++ q.1)) size ∙ n.front in
      let y : p.1 ≡ q.1 =
      sym (drop_at p.0 p.1 (length p.0) refl) ∙ ap (drop (length p.0)) (p.4 ∙ sym q.4)
      ∙ ap (λ j. drop j (q.0 ++ q.1)) size ∙ drop_at q.0 q.1 (length q.0) refl in
      let head : t ≡ u = one_text t u q.0 h.0 k.0 (p.2 ∙ ap (λ z. Some z) x) q.2 in
      let tail : ts ≡ us = one_texts ts us q.1 h.1 k.1 (p.3 ∙ ap (λ z. Some z) y) q.3 in
      λ i. more (head i) (tail i)
