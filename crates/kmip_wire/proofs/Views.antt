-- The parts of a view are those of its tree.
use Rattle.std.proofs.Common.{◌≡◌, ℕ, suc, zero, ◌+◌, ◌-◌, ◌%◌, ◌≤◌, true, false, eqb, List, [], ◌∷◌, length, take, drop, Option, cond, Some, None, refl, sym, ap, subst, ◌∙◌, arith}
use Rattle.std.specs.Option.{is_some, unwrap_or}
use Rattle.std.specs.Int.{w32, w64, from_be_bytes, cast_signed}
use Rattle.std.specs.Prelude.{IsUtf8, slice_index}
use Rattle.std.specs.Str.{is_utf8}
use Rattle.std.proofs.lemmas.Str.{IsUtf8-from_is_utf8}
use Rattle.std.proofs.lemmas.Bool.{eqb-true}
use Rattle.std.proofs.lemmas.Option.{cond_some, same_Some, none-some}
use Rattle.kmip_wire.specs.declared.kind.Kind.{Kind}
use Rattle.kmip_wire.specs.declared.kind.Kind.TheVariants.{Structure, Integer, LongInteger, BigInteger, Enumeration, Boolean, TextString, ByteString, DateTime, Interval}
use Rattle.kmip_wire.specs.Tree.{Tree, Trees, Scalar, scalar, structure, none, more, list_of, integer, long_integer, big_integer, enumeration, boolean, text_string, byte_string, date_time, interval}
use Rattle.kmip_wire.specs.Kinds.{kind_of, kind_of_scalar}
use Rattle.kmip_wire.specs.Head.{head_tag, head_code, size_at, value_of}
use Rattle.kmip_wire.specs.Parses.{IsLevel, Parses, ParseAll}
use Rattle.kmip_wire.specs.Reading.{scalar_at, item_of, front_at, front_of}
use Rattle.kmip_wire.specs.Whole.{whole_tree, whole_trees, is_tree, are_trees, the_tree, the_trees}
use Rattle.kmip_wire.specs.Parts.{tag_of, kind_of_tree, int_in, long_in, big_in, enumeration_in, flag_in, text_in, bytes_in, date_in, interval_in, children_in}
use Rattle.kmip_wire.proofs.Values.{kind_of-code_of, scalar_at-complete, boolean_at}
use Rattle.kmip_wire.proofs.Computed.{item_of-sound, item_of-complete, items_by-sound, items_by-complete, front_of-sound, some_of, sized, size_at-take}
use Rattle.std.proofs.lemmas.List.{length-take-le}

-- ---- what the invariants say

none_if : {A : Type 0} (o : Option A) → ((x : A) → o ≡ Some x → ⊥) → o ≡ None
none_if None h = refl
none_if (Some x) h = absurd (h x refl)

pub whole_tree-parses : (b : List ℕ) (t : Tree) → whole_tree b ≡ Some t → Parses t 1 b
unfolding whole_tree
whole_tree-parses b t e = item_of-sound 64 1 (omega arith) refl b t e

pub parses-whole_tree : (b : List ℕ) (t : Tree) → Parses t 1 b → whole_tree b ≡ Some t
unfolding whole_tree
parses-whole_tree b t h = item_of-complete t 1 64 b refl h

pub whole_trees-parse : (b : List ℕ) (ts : Trees) → whole_trees b ≡ Some ts → ParseAll ts 1 b
unfolding whole_trees
whole_trees-parse b ts e = items_by-sound (item_of 64) 1
    (λ c t f. item_of-sound 64 1 (omega arith) refl c t f) (length b) b ts e

pub parse-whole_trees : (b : List ℕ) (ts : Trees) → ParseAll ts 1 b → whole_trees b ≡ Some ts
unfolding whole_trees
parse-whole_trees b ts h = items_by-complete ts 1 64 b (length b) refl (omega arith) h

pub the_tree-is : (b : List ℕ) (t : Tree) → Parses t 1 b → the_tree b ≡ t
unfolding the_tree
the_tree-is b t h = ap (λ o. unwrap_or o (structure 0 none)) (parses-whole_tree b t h)

pub the_trees-are : (b : List ℕ) (ts : Trees) → ParseAll ts 1 b → the_trees b ≡ list_of ts
unfolding the_trees
the_trees-are b ts h = ap (λ o. list_of (unwrap_or o none)) (parse-whole_trees b ts h)

pub a_tree : (b : List ℕ) (t : Tree) → Parses t 1 b → is_tree b ≡ true
a_tree b t h = ap is_some (parses-whole_tree b t h)

pub some_trees : (b : List ℕ) (ts : Trees) → ParseAll ts 1 b → are_trees b ≡ true
some_trees b ts h = ap is_some (parse-whole_trees b ts h)

pub opened : (b : List ℕ) → is_tree b ≡ true → Parses (the_tree b) 1 b
opened b h =
    let t = some_of (whole_tree b) h in
    let p : Parses t.0 1 b = whole_tree-parses b t.0 t.1 in
    let P : Tree → Type 0 = λ u. Parses u 1 b in
    subst P (sym (the_tree-is b t.0 p)) p

pub root_is : (b : List ℕ) (t : Tree) → Parses t 1 b → Some (the_tree b) ≡ item_of 64 b
root_is b t h = ap (λ u. Some u) (the_tree-is b t h) ∙ sym (item_of-complete t 1 64 b refl h)

pub no_root : (b : List ℕ) → ((t : Tree) → Parses t 1 b → ⊥) → None ≡ item_of 64 b
no_root b h = sym (none_if (item_of 64 b) (λ t e. h t (item_of-sound 64 1 (omega arith) refl b t e)))

pub all_opened : (b : List ℕ) → are_trees b ≡ true → (ts : Trees) × ParseAll ts 1 b
all_opened b h = let ts = some_of (whole_trees b) h in (ts.0, whole_trees-parse b ts.0 ts.1)

-- ---- a level lower

mutual
  pub lower : (t : Tree) (level : ℕ) (b : List ℕ) → 1 ≤ level → Parses t (level + 1) b → Parses t level b
  lower (scalar tag s) level b low h =
      record {
        level_is = (low, omega (arith, h.level_is.1));
        head = h.head;
        tag_is =
            h.tag_is;
        kind_is = h.kind_is;
        whole = h.whole;
        value = h.value;
      }
  lower (structure tag ts) level b low h =
      record {
        level_is = (low, omega (arith, h.level_is.1));
        head = h.head;
        tag_is =
            h.tag_is;
        kind_is = h.kind_is;
        whole = h.whole;
        value =
            lower_all ts (level + 1) (value_of b) (omega arith) h.value;
      }

  pub lower_all : (ts : Trees) (level : ℕ) (b : List ℕ) → 1 ≤ level → ParseAll ts (level + 1) b → ParseAll ts level b
  lower_all none level b low h = h
  lower_all (more t ts) level b low (n, le, p, q) =
      (n, le, lower t level (take n b) low p, lower_all ts level (drop n b) low q)

none_of : {A B : Type 0} (o : Option A) (x : B) → cond (is_some o) (Some x) None ≡ None → o ≡ None
none_of None x e = refl
none_of (Some y) x e = absurd (none-some x (sym e))

pub lowest : (level : ℕ) (t : Tree) (b : List ℕ) → 1 ≤ level → Parses t level b → Parses t 1 b
lowest zero t b low h = absurd (omega (arith, low))
lowest (suc zero) t b low h = h
lowest (suc (suc n)) t b low h =
    let P : ℕ → Type 0 = λ k. Parses t k b in
    lowest (suc n) t b (omega arith) (lower t (suc n) b (omega arith) (subst P (omega arith) h))

-- the front at a level is a tree of its own
pub a_front : (level n : ℕ) (b : List ℕ) → IsLevel level → front_of (65 - level) b ≡ Some n
    → (is_tree (take n b) ≡ true) × (Some (the_tree (take n b)) ≡ front_at level b)
    × (n ≡ size_at b) × (n ≤ length b) × Parses (the_tree (take n b)) level (take n b)
a_front level n b l e =
    let f = front_of-sound level n b l e in
    let p : Parses f.1.0 1 (take n b) = lowest level f.1.0 (take n b) l.0 f.1.1 in
    let same : n ≡ size_at b = sym
    (cond_some (is_some (item_of (65 - level) (take (size_at b) b))) (size_at b) n e).1 in
    let there : item_of (65 - level) (take n b) ≡ Some f.1.0 =
    item_of-complete f.1.0 level (65 - level) (take n b) (omega (arith, l.0, l.1)) f.1.1 in (
      a_tree (take n b) f.1.0 p,
      ap (λ t. Some t) (the_tree-is (take n b) f.1.0 p) ∙ sym there ∙ ap (λ k. item_of (65 - level) (take k b)) same,
      same,
      f.0,
      subst (λ t. Parses t level (take n b)) (sym (the_tree-is (take n b) f.1.0 p)) f.1.1,
    )

pub no_front : (level : ℕ) (b : List ℕ) → front_of (65 - level) b ≡ None → None ≡ front_at level b
no_front level b e = sym (none_of (front_at level b) (size_at b) e)

-- ---- the parts

pub kind_at : (t : Tree) (b : List ℕ) → Parses t 1 b → kind_of (head_code b) ≡ Some (kind_of_tree t)
kind_at (scalar tag s) b h = ap kind_of h.kind_is ∙ kind_of-code_of (kind_of_scalar s)
kind_at (structure tag ts) b h = ap kind_of h.kind_is

pub kind_is : (b : List ℕ) (k : Kind) → is_tree b ≡ true → Some k ≡ kind_of (head_code b)
    → k ≡ kind_of_tree (the_tree b)
kind_is b k h e = same_Some k (kind_of_tree (the_tree b)) (e ∙ kind_at (the_tree b) b (opened b h))

pub has_kind : (b : List ℕ) → is_tree b ≡ true → None ≡ kind_of (head_code b) → ⊥
has_kind b h e = none-some (kind_of_tree (the_tree b)) (e ∙ kind_at (the_tree b) b (opened b h))

pub long_enough : (b : List ℕ) → is_tree b ≡ true → (8 ≤ length b) × (length b ≡ size_at b)
long_enough b h = let s = sized (the_tree b) 1 b (opened b h) in (s.head, s.whole)

-- the scalar that the value of a view stands for
the_scalar_at : (t : Tree) (b : List ℕ) → Parses t 1 b → (k : Kind) → k ≡ kind_of_tree t
    → (k ≡ Structure → ⊥) → (s : Scalar) × (t ≡ scalar (tag_of t) s)
    × (scalar_at k (value_of b) ≡ Some s)
the_scalar_at (scalar tag s) b h k e n =
    (s, refl, ap (λ j. scalar_at j (value_of b)) e ∙ scalar_at-complete s (value_of b) h.value)
the_scalar_at (structure tag ts) b h k e n = absurd (n e)

pub the_scalar : (b : List ℕ) (k : Kind) → is_tree b ≡ true → k ≡ kind_of_tree (the_tree b)
    → (k ≡ Structure → ⊥) → (s : Scalar) × (the_tree b ≡ scalar (tag_of (the_tree b)) s)
    × (scalar_at k (value_of b) ≡ Some s)
the_scalar b k h e n = the_scalar_at (the_tree b) b (opened b h) k e n

pub int_is : (b : List ℕ) → is_tree b ≡ true → Integer ≡ kind_of_tree (the_tree b)
    → (length (value_of b) ≡ 4) × (int_in (the_tree b) ≡ Some
    (cast_signed w32 (from_be_bytes w32 (value_of b))))
int_is b h e =
    let s = the_scalar b Integer h e (λ q. cc) in
    let p = cond_some (eqb (length (value_of b)) 4)
    (integer (cast_signed w32 (from_be_bytes w32 (value_of b)))) s.0 s.2 in
    (eqb-true _ _ p.0, ap int_in (s.1 ∙ ap (scalar (tag_of (the_tree b))) (sym p.1)))

pub long_is : (b : List ℕ) → is_tree b ≡ true → LongInteger ≡ kind_of_tree (the_tree b)
    → (length (value_of b) ≡ 8) × (long_in (the_tree b) ≡ Some
    (cast_signed w64 (from_be_bytes w64 (value_of b))))
long_is b h e =
    let s = the_scalar b LongInteger h e (λ q. cc) in
    let p = cond_some (eqb (length (value_of b)) 8)
    (long_integer (cast_signed w64 (from_be_bytes w64 (value_of b)))) s.0 s.2 in
    (eqb-true _ _ p.0, ap long_in (s.1 ∙ ap (scalar (tag_of (the_tree b))) (sym p.1)))

pub enumeration_is : (b : List ℕ) → is_tree b ≡ true → Enumeration ≡ kind_of_tree (the_tree b)
    → (length (value_of b) ≡ 4) × (enumeration_in (the_tree b) ≡ Some
    (from_be_bytes w32 (value_of b)))
enumeration_is b h e =
    let s = the_scalar b Enumeration h e (λ q. cc) in
    let p = cond_some (eqb (length (value_of b)) 4) (enumeration (from_be_bytes w32 (value_of b))) s.0 s.2 in
    (eqb-true _ _ p.0, ap enumeration_in (s.1 ∙ ap (scalar (tag_of (the_tree b))) (sym p.1)))

pub date_is : (b : List ℕ) → is_tree b ≡ true → DateTime ≡ kind_of_tree (the_tree b)
    → (length (value_of b) ≡ 8) × (date_in (the_tree b) ≡ Some (from_be_bytes w64 (value_of b)))
date_is b h e =
    let s = the_scalar b DateTime h e (λ q. cc) in
    let p = cond_some (eqb (length (value_of b)) 8) (date_time (from_be_bytes w64 (value_of b))) s.0 s.2 in
    (eqb-true _ _ p.0, ap date_in (s.1 ∙ ap (scalar (tag_of (the_tree b))) (sym p.1)))

pub interval_is : (b : List ℕ) → is_tree b ≡ true → Interval ≡ kind_of_tree (the_tree b)
    → (length (value_of b) ≡ 4) × (interval_in (the_tree b) ≡ Some (from_be_bytes w32 (value_of b)))
interval_is b h e =
    let s = the_scalar b Interval h e (λ q. cc) in
    let p = cond_some (eqb (length (value_of b)) 4) (interval (from_be_bytes w32 (value_of b))) s.0 s.2 in
    (eqb-true _ _ p.0, ap interval_in (s.1 ∙ ap (scalar (tag_of (the_tree b))) (sym p.1)))

pub flag_is : (b : List ℕ) → is_tree b ≡ true → Boolean ≡ kind_of_tree (the_tree b)
    → (length (value_of b) ≡ 8) × (flag_in (the_tree b) ≡ Some
    (eqb (from_be_bytes w64 (value_of b)) 1))
flag_is b h e =
    let s = the_scalar b Boolean h e (λ q. cc) in
    let p = boolean_at (value_of b) s.0 s.2 in
    (p.0, ap flag_in (s.1 ∙ ap (scalar (tag_of (the_tree b))) p.1))

pub big_is : (b : List ℕ) → is_tree b ≡ true → BigInteger ≡ kind_of_tree (the_tree b)
    → big_in (the_tree b) ≡ Some (value_of b)
big_is b h e =
    let s = the_scalar b BigInteger h e (λ q. cc) in
    let p = cond_some (eqb (length (value_of b) % 8) 0) (big_integer (value_of b)) s.0 s.2 in
    ap big_in (s.1 ∙ ap (scalar (tag_of (the_tree b))) (sym p.1))

pub bytes_is : (b : List ℕ) → is_tree b ≡ true → ByteString ≡ kind_of_tree (the_tree b)
    → bytes_in (the_tree b) ≡ Some (value_of b)
bytes_is b h e =
    let s = the_scalar b ByteString h e (λ q. cc) in
    ap bytes_in (s.1 ∙ ap (scalar (tag_of (the_tree b))) (sym (same_Some (byte_string (value_of b)) s.0 s.2)))

pub text_is : (b : List ℕ) → is_tree b ≡ true → TextString ≡ kind_of_tree (the_tree b)
    → IsUtf8 (value_of b) × (text_in (the_tree b) ≡ Some (value_of b))
text_is b h e =
    let s = the_scalar b TextString h e (λ q. cc) in
    let p = cond_some (is_utf8 (value_of b)) (text_string (value_of b)) s.0 s.2 in
    (IsUtf8-from_is_utf8 (value_of b) p.0, ap text_in (s.1 ∙ ap (scalar (tag_of (the_tree b))) (sym p.1)))

children_at : (t : Tree) (b : List ℕ) → Parses t 1 b → Structure ≡ kind_of_tree t → (ts : Trees)
    × ParseAll ts 1 (value_of b) × (children_in t ≡ Some (list_of ts))
children_at (structure tag ts) b h e = (ts, lower_all ts 1 (value_of b) (omega arith) h.value, refl)
children_at (scalar tag (text_string z)) b h e = absurd cc
children_at (scalar tag (integer z)) b h e = absurd cc
children_at (scalar tag (long_integer z)) b h e = absurd cc
children_at (scalar tag (big_integer z)) b h e = absurd cc
children_at (scalar tag (enumeration z)) b h e = absurd cc
children_at (scalar tag (boolean z)) b h e = absurd cc
children_at (scalar tag (byte_string z)) b h e = absurd cc
children_at (scalar tag (date_time z)) b h e = absurd cc
children_at (scalar tag (interval z)) b h e = absurd cc

pub children_are : (b : List ℕ) → is_tree b ≡ true → Structure ≡ kind_of_tree (the_tree b)
    → (are_trees (value_of b) ≡ true) × (children_in (the_tree b) ≡ Some (the_trees (value_of b)))
children_are b h e =
    let c = children_at (the_tree b) b (opened b h) e in
    (some_trees (value_of b) c.0 c.1, c.2 ∙ ap (λ x. Some x) (sym (the_trees-are (value_of b) c.0 c.1)))

-- ---- one child more

pub record FirstChild (b : List ℕ) : Type 0 where
  pub head : 8 ≤ length b
  pub within : size_at b ≤ length b
  pub item : is_tree (take (size_at b) b) ≡ true
  pub rest : are_trees (drop (size_at b) b) ≡ true
  pub order : the_trees b ≡ the_tree (take (size_at b) b) ∷ the_trees (drop (size_at b) b)

first_at : (ts : Trees) (b : List ℕ) → 1 ≤ length b → ParseAll ts 1 b → FirstChild b
first_at none b lt h = absurd (omega (arith, ap length h))
first_at (more t ts) b lt (n, le, p, q) =
    let s = sized t 1 (take n b) p in
    let long : length (take n b) ≡ n = length-take-le n b le in
    let at_least : 8 ≤ n = omega (arith, s.head, long) in
    let same : n ≡ size_at b = sym long ∙ s.whole ∙ size_at-take n b at_least in
    let P : ℕ → Type 0 = λ k. Parses t 1 (take k b) in
    let Q : ℕ → Type 0 = λ k. ParseAll ts 1 (drop k b) in
    let first : Parses t 1 (take (size_at b) b) = subst P same p in
    let rest : ParseAll ts 1 (drop (size_at b) b) = subst Q same q in
    record {
      head = omega (arith, long);
      within = omega (arith, same);
      item = a_tree (take (size_at b) b) t first;
      rest = some_trees (drop (size_at b) b) ts rest;
      order = the_trees-are b (more t ts) (n, le, p, q)
          ∙ ap (λ u. u ∷ list_of ts) (sym (the_tree-is (take (size_at b) b) t first))
          ∙ ap (λ us. the_tree (take (size_at b) b) ∷ us)
          (sym (the_trees-are (drop (size_at b) b) ts rest));
    }

pub first_child : (b : List ℕ) → are_trees b ≡ true → 1 ≤ length b → FirstChild b
first_child b h lt = let ts = all_opened b h in first_at ts.0 b lt ts.1

pub no_child : (b : List ℕ) → length b ≡ 0 → the_trees b ≡ []
no_child [] e = the_trees-are [] none refl
no_child (x ∷ xs) e = absurd (omega arith)

pub some_bytes : (b : List ℕ) → false ≡ eqb (length b) 0 → 1 ≤ length b
some_bytes [] e = absurd cc
some_bytes (x ∷ xs) e = omega arith

pub no_bytes : (b : List ℕ) → true ≡ eqb (length b) 0 → length b ≡ 0
no_bytes b e = eqb-true (length b) 0 (sym e)

tag_at : (t : Tree) (b : List ℕ) → Parses t 1 b → tag_of t ≡ head_tag b
tag_at (scalar tag s) b h = h.tag_is
tag_at (structure tag ts) b h = h.tag_is

pub tag_is : (b : List ℕ) → is_tree b ≡ true → tag_of (the_tree b) ≡ head_tag b
tag_is b h = tag_at (the_tree b) b (opened b h)

pub tag_is_bytes : (b : List ℕ) (n : ℕ) → is_tree b ≡ true
    → n ≡ from_be_bytes w32 (0 ∷ slice_index b 0 ∷ slice_index b 1 ∷ slice_index b 2 ∷ [])
    → n ≡ tag_of (the_tree b)
unfolding head_tag
tag_is_bytes b n h e = e ∙ sym (tag_is b h)
