-- The tree of a value that fits its shape has its tags, numbers, texts and bytes in their ranges, and no more levels than the shape.
use Rattle.std.proofs.Common.{◌≡◌, ℕ, zero, suc, ◌+◌, ◌^◌, ◌<◌, ◌≤◌, max, Bool, true, false, cond, ◌&&◌, ◌||◌, nat_lt, nat_eq, pos, List, [], ◌∷◌, ◌++◌, Option, Some, None, refl, subst, arith, ltb-true}
use Rattle.std.proofs.lemmas.Int.{ints}
use Rattle.std.specs.Prelude.{FitsSigned}
use Rattle.std.specs.Int.{w32, w64}
use Rattle.kmip_wire.specs.declared.kind.Kind.{Kind}
use Rattle.kmip_wire.specs.declared.kind.Kind.TheVariants.{Integer, LongInteger, BigInteger, Enumeration, Boolean, TextString, ByteString, DateTime, Interval}
use Rattle.kmip_wire.specs.Tree.{Tree, trees_of}
use Rattle.kmip_wire.specs.Bytes.{AreBytes, HasRanges, HaveRanges, levels, levels_of_all}
use Rattle.kmip_shape.specs.Val.{Val, Vals, Field, Fields, Number, Text, Bytes, Truth, Record, Case, Absent, One, Many, NoField, AndField, NoVal, AndVal}
use Rattle.kmip_shape.specs.Shape.{Shape, RowList, Cases, Entry, Found, Under, AnyNumber, Plain, OfName, Scalar, OneOf, Rows, RowsOrBytes, Choice, Custom, NoRow, AndRow, NoCase, AndCase, leaf_of, case_at, in_table, tag_or, place_tag, attribute_value}
use Rattle.kmip_shape.specs.Trees.{all_absent, byte_form, has_wire_form, bytes_or, custom_trees, plain_tree, plain_trees, item, leaf_tree, then_trees, one_tree, structure_of, tree_in, field_trees, trees_in, list_trees, tree_of}
use Rattle.kmip_shape.specs.Fits.{AreBytes as AllBytes, kind_fits, leaf_fits, fits_in, fields_fit, field_fits, vals_fit, Fits}
use Rattle.kmip_shape.proofs.Parts.{none_some, some_same}
use Rattle.kmip_shape.proofs.Lists.{and_left, and_right, eq_same}

-- ---- what is asked of a table

-- the numbers of an enumeration's table fit four bytes
abbrev pub numbers_in_range : List Entry → Bool
numbers_in_range [] = true
numbers_in_range (e ∷ es) = nat_lt e.number (2 ^ 32) && numbers_in_range es

-- the tags that a shape names fit three bytes, and the numbers of its tables four
abbrev mutual
  pub tags_in_range : Shape → Bool
  tags_in_range (Scalar kind) = true
  tags_in_range (OneOf entries) = numbers_in_range entries
  tags_in_range (Rows rows) = rows_in_range rows
  tags_in_range (RowsOrBytes n rows) = rows_in_range rows
  tags_in_range (Choice rule cases) = cases_in_range cases
  tags_in_range Custom = true

  pub rows_in_range : RowList → Bool
  rows_in_range NoRow = true
  rows_in_range (AndRow name place mark role shape rows) =
      nat_lt (place_tag place) (2 ^ 24) && (tags_in_range shape && rows_in_range rows)

  pub cases_in_range : Cases → Bool
  cases_in_range NoCase = true
  cases_in_range (AndCase n name selector fixed shape cases) =
      nat_lt (tag_or fixed 0) (2 ^ 24) && (tags_in_range shape && cases_in_range cases)

-- how many levels the tree of a shape has at most
abbrev mutual
  pub depth : Shape → ℕ
  depth (Scalar kind) = 1
  depth (OneOf entries) = 1
  depth (Rows rows) = rows_depth rows + 1
  depth (RowsOrBytes n rows) = rows_depth rows + 1
  depth (Choice rule cases) = cases_depth cases
  depth Custom = 2

  pub rows_depth : RowList → ℕ
  rows_depth NoRow = 0
  rows_depth (AndRow name place mark role shape rows) = max (depth shape) (rows_depth rows)

  pub cases_depth : Cases → ℕ
  cases_depth NoCase = 0
  cases_depth (AndCase n name selector fixed shape cases) = max (depth shape) (cases_depth cases)

-- ---- trees, where there are such

-- a tree has its ranges and at most so many levels
abbrev pub Keeps : Option Tree → ℕ → Type 0
Keeps None n = Unit {0}
Keeps (Some t) n = HasRanges t × (levels t ≤ n)

-- the same of each of some trees
abbrev pub AllKeep : Option (List Tree) → ℕ → Type 0
AllKeep None n = Unit {0}
AllKeep (Some ts) n = HaveRanges (trees_of ts) × (levels_of_all (trees_of ts) ≤ n)

pub keeps_more : (o : Option Tree) (m n : ℕ) → m ≤ n → Keeps o m → Keeps o n
keeps_more None m n h k = tt
keeps_more (Some t) m n h k = (k.0, omega (arith, k.1))

ranges_append : (xs ys : List Tree) → HaveRanges (trees_of xs) → HaveRanges (trees_of ys)
    → HaveRanges (trees_of (xs ++ ys))
ranges_append [] ys h k = k
ranges_append (x ∷ xs) ys h k = (h.0, ranges_append xs ys h.1 k)

levels_append : (xs ys : List Tree) (n : ℕ) → levels_of_all (trees_of xs) ≤ n
    → levels_of_all (trees_of ys) ≤ n → levels_of_all (trees_of (xs ++ ys)) ≤ n
levels_append [] ys n h k = k
levels_append (x ∷ xs) ys n h k =
    let rest : levels_of_all (trees_of (xs ++ ys)) ≤ n = levels_append xs ys n (omega arith) k in
    omega arith

pub then_keeps : (a b : Option (List Tree)) (m n k : ℕ) → m ≤ k → n ≤ k → AllKeep a m → AllKeep b n
    → AllKeep (then_trees a b) k
then_keeps None b m n k p q h g = tt
then_keeps (Some xs) None m n k p q h g = tt
then_keeps (Some xs) (Some ys) m n k p q h g =
    (ranges_append xs ys h.0 g.0, levels_append xs ys k (omega (arith, h.1)) (omega (arith, g.1)))

one_keeps : (o : Option Tree) (n : ℕ) → Keeps o n → AllKeep (one_tree o) n
one_keeps None n h = tt
one_keeps (Some t) n h = ((h.0, tt), omega (arith, h.1))

structure_keeps : (tag : ℕ) (o : Option (List Tree)) (n : ℕ) → tag < 2 ^ 24 → AllKeep o n
    → Keeps (structure_of tag o) (n + 1)
structure_keeps tag None n t h = tt
structure_keeps tag (Some ts) n t h = ((t, h.0), omega (arith, h.1))

-- ---- leaves

are_bytes : (b : List ℕ) → AllBytes b → AreBytes b
are_bytes [] h i = omega arith
are_bytes (x ∷ xs) h zero = h.0
are_bytes (x ∷ xs) h (suc i) = are_bytes xs h.1 i

kind_keeps : (k : Kind) (v : Val) (tag : ℕ) → tag < 2 ^ 24 → kind_fits k v → Keeps (item tag (leaf_of k v)) 1
kind_keeps Integer (Number z) tag t h = let f : FitsSigned w32 z = omega (arith, ints, h) in ((t, f), omega arith)
kind_keeps LongInteger (Number z) tag t h = let f : FitsSigned w64 z = omega (arith, ints, h) in ((t, f), omega arith)
kind_keeps BigInteger (Bytes b) tag t h = ((t, are_bytes b h), omega arith)
kind_keeps Enumeration (Number (pos n)) tag t h = ((t, h), omega arith)
kind_keeps Boolean (Truth b) tag t h = ((t, tt), omega arith)
kind_keeps TextString (Text s) tag t h = ((t, h), omega arith)
kind_keeps ByteString (Bytes b) tag t h = ((t, are_bytes b h), omega arith)
kind_keeps DateTime (Number (pos n)) tag t h = ((t, h), omega arith)
kind_keeps Interval (Number (pos n)) tag t h = ((t, h), omega arith)
kind_keeps _ _ tag t h = absurd h

number_in_range : (es : List Entry) (n : ℕ) → numbers_in_range es ≡ true → in_table n es ≡ true → n < 2 ^ 32
number_in_range [] n r h = absurd (cc)
number_in_range (e ∷ es) n r h = go (nat_eq e.number n) refl h
    (number_in_range es n (and_right (nat_lt e.number (2 ^ 32)) (numbers_in_range es) r))
  where
    first : e.number < 2 ^ 32
    first = ltb-true e.number (2 ^ 32) (and_left (nat_lt e.number (2 ^ 32)) (numbers_in_range es) r)

    go : (q : Bool) → nat_eq e.number n ≡ q → (q || in_table n es) ≡ true
        → (in_table n es ≡ true → n < 2 ^ 32) → n < 2 ^ 32
    go true p k ih = subst (λ (m : ℕ). m < 2 ^ 32) (eq_same e.number n p) first
    go false p k ih = ih k

entry_keeps : (es : List Entry) (v : Val) (tag : ℕ) → tag < 2 ^ 24 → numbers_in_range es ≡ true
    → leaf_fits (OneOf es) v → Keeps (item tag (leaf_of Enumeration v)) 1
entry_keeps es (Number (pos n)) tag t r h = ((t, number_in_range es n r h), omega arith)
entry_keeps es _ tag t r h = absurd h

leaf_keeps : (shape : Shape) (v : Val) (tag : ℕ) → tag < 2 ^ 24 → tags_in_range shape ≡ true
    → leaf_fits shape v → Keeps (leaf_tree shape tag v) (depth shape)
leaf_keeps (Scalar k) v tag t r h = kind_keeps k v tag t h
leaf_keeps (OneOf es) v tag t r h = entry_keeps es v tag t r h
leaf_keeps (Rows rows) v tag t r h = tt
leaf_keeps (RowsOrBytes n rows) v tag t r h = tt
leaf_keeps (Choice rule cases) v tag t r h = tt
leaf_keeps Custom v tag t r h = tt

-- ---- cases

-- a case fixes a tag in range, and its shape is in range and no deeper
abbrev CaseKeeps : ℕ → Found → Type 0
CaseKeeps n c = (tag_or c.tag 0 < 2 ^ 24) × (tags_in_range c.shape ≡ true) × (depth c.shape ≤ n)

abbrev FoundKeeps : ℕ → Option Found → Type 0
FoundKeeps n None = Unit {0}
FoundKeeps n (Some c) = CaseKeeps n c

found_more : (m n : ℕ) (o : Option Found) → m ≤ n → FoundKeeps m o → FoundKeeps n o
found_more m n None h k = tt
found_more m n (Some c) h k = (k.0, k.1, omega (arith, k.2))

case_keeps : (cases : Cases) (n : ℕ) → cases_in_range cases ≡ true → FoundKeeps (cases_depth cases) (case_at cases n)
case_keeps NoCase n r = tt
case_keeps (AndCase m name selector fixed shape cases) n r =
    go (nat_eq m n) (found_more (cases_depth cases) (max (depth shape) (cases_depth cases))
    (case_at cases n) (omega arith)
    (case_keeps cases n (and_right (tags_in_range shape) (cases_in_range cases)
    (and_right (nat_lt (tag_or fixed 0) (2 ^ 24))
    (tags_in_range shape && cases_in_range cases) r))))
  where
    found : Found
    found = record { name = name; selector = selector; tag = fixed; shape = shape }

    go : (q : Bool) → FoundKeeps (max (depth shape) (cases_depth cases)) (case_at cases n)
        → FoundKeeps (max (depth shape) (cases_depth cases)) (cond q (Some found) (case_at cases n))
    go true k = (
      ltb-true (tag_or fixed 0) (2 ^ 24)
          (and_left (nat_lt (tag_or fixed 0) (2 ^ 24))
          (tags_in_range shape && cases_in_range cases) r),
      and_left (tags_in_range shape) (cases_in_range cases)
          (and_right (nat_lt (tag_or fixed 0) (2 ^ 24))
          (tags_in_range shape && cases_in_range cases) r),
      omega arith,
    )
    go false k = k

tag_kept : (fixed : Option ℕ) (tag : ℕ) → tag < 2 ^ 24 → tag_or fixed 0 < 2 ^ 24 → tag_or fixed tag < 2 ^ 24
tag_kept None tag t h = t
tag_kept (Some u) tag t h = h

chosen_keeps : (cases : Cases) (n : ℕ) (v : Val) (tag : ℕ) → cases_in_range cases ≡ true → tag < 2 ^ 24
    → elim (case_at cases n) as (λ _. Type 0) [ None ↦ ⊥ | Some c ↦ fits_in v cases c.shape ]
    → ((c : Found) → tags_in_range c.shape ≡ true → tag_or c.tag tag < 2 ^ 24
    → fits_in v cases c.shape → Keeps (tree_in v cases c.shape (tag_or c.tag tag))
    (depth c.shape))
    → Keeps (elim (case_at cases n) as
    (λ _. Option Tree) [
      | None ↦ None
      | Some c ↦ cond (has_wire_form c.selector)
          (tree_in v cases c.shape (tag_or c.tag tag)) None
    ]) (cases_depth cases)
chosen_keeps cases n v tag r t f ih = go (case_at cases n) (case_keeps cases n r) f
  where
    at : (c : Found) (q : Bool) → Keeps (tree_in v cases c.shape (tag_or c.tag tag))
        (cases_depth cases) → Keeps (cond q (tree_in v cases c.shape (tag_or c.tag tag)) None)
        (cases_depth cases)
    at c true k = k
    at c false k = tt

    go : (o : Option Found) → FoundKeeps (cases_depth cases) o
        → elim o as (λ _. Type 0) [ None ↦ ⊥ | Some c ↦ fits_in v cases c.shape ]
        → Keeps (elim o as (λ _. Option Tree) [
          | None ↦ None
          | Some c ↦ cond (has_wire_form c.selector)
              (tree_in v cases c.shape (tag_or c.tag tag)) None
        ]) (cases_depth cases)
    go None k f = tt
    go (Some c) k f =
        at c (has_wire_form c.selector)
        (keeps_more (tree_in v cases c.shape (tag_or c.tag tag)) (depth c.shape)
        (cases_depth cases) k.2 (ih c k.1 (tag_kept c.tag tag t k.0) f))

-- ---- custom structures

-- a leaf of any value that fits
plain_leaf : (shape : Shape) (v : Val) (around : Cases) (tag : ℕ) → tag < 2 ^ 24
    → tags_in_range shape ≡ true → fits_in v around shape → Keeps (leaf_tree shape tag v) 1
plain_leaf (Scalar k) (Number z) around tag t r h = kind_keeps k (Number z) tag t h
plain_leaf (Scalar k) (Text z) around tag t r h = kind_keeps k (Text z) tag t h
plain_leaf (Scalar k) (Bytes z) around tag t r h = kind_keeps k (Bytes z) tag t h
plain_leaf (Scalar k) (Truth z) around tag t r h = kind_keeps k (Truth z) tag t h
plain_leaf (Scalar k) (Record z) around tag t r h = absurd h
plain_leaf (Scalar k) (Case n z) around tag t r h = absurd h
plain_leaf (OneOf es) (Number z) around tag t r h = entry_keeps es (Number z) tag t r h
plain_leaf (OneOf es) (Text z) around tag t r h = absurd h
plain_leaf (OneOf es) (Bytes z) around tag t r h = absurd h
plain_leaf (OneOf es) (Truth z) around tag t r h = absurd h
plain_leaf (OneOf es) (Record z) around tag t r h = absurd h
plain_leaf (OneOf es) (Case n z) around tag t r h = absurd h
plain_leaf (Rows rows) v around tag t r h = tt
plain_leaf (RowsOrBytes n rows) v around tag t r h = tt
plain_leaf (Choice rule cases) v around tag t r h = tt
plain_leaf Custom v around tag t r h = tt

plain_keeps : (around : Cases) (v : Val) → cases_in_range around ≡ true
    → fits_in v NoCase (Choice OfName around) → Keeps (plain_tree around v) 1
plain_keeps around (Case n v) r f = go (case_at around n) (case_keeps around n r) f
  where
    go : (o : Option Found) → FoundKeeps (cases_depth around) o
        → elim o as (λ _. Type 0) [ None ↦ ⊥ | Some c ↦ fits_in v around c.shape ]
        → Keeps (elim o as (λ _. Option Tree) [ None ↦ None | Some c ↦ leaf_tree c.shape attribute_value v ]) 1
    go None k f = tt
    go (Some c) k f = plain_leaf c.shape v around attribute_value (omega arith) k.1 f
plain_keeps around (Number z) r f = tt
plain_keeps around (Text z) r f = tt
plain_keeps around (Bytes z) r f = tt
plain_keeps around (Truth z) r f = tt
plain_keeps around (Record z) r f = tt

plains_keep : (around : Cases) (vs : Vals) → cases_in_range around ≡ true
    → vals_fit vs NoCase (Choice OfName around) → AllKeep (plain_trees around vs) 1
plains_keep around NoVal r f = (tt, omega arith)
plains_keep around (AndVal v vs) r f =
    then_keeps (one_tree (plain_tree around v)) (plain_trees around vs) 1 1 1 (omega arith) (omega arith)
    (one_keeps (plain_tree around v) 1 (plain_keeps around v r f.0)) (plains_keep around vs r f.1)

custom_keeps : (around : Cases) (fs : Fields) (tag : ℕ) → cases_in_range around ≡ true → tag < 2 ^ 24
    → fields_fit fs NoCase (AndRow [] (Under attribute_value) AnyNumber Plain
    (Choice OfName around) NoRow) → Keeps (structure_of tag (custom_trees around fs)) 2
custom_keeps around (AndField (Many vs) NoField) tag r t f =
    structure_keeps tag (plain_trees around vs) 1 t (plains_keep around vs r f.1)
custom_keeps around NoField tag r t f = tt
custom_keeps around (AndField Absent fs) tag r t f = tt
custom_keeps around (AndField (One v) fs) tag r t f = tt
custom_keeps around (AndField (Many vs) (AndField d fs)) tag r t f = tt

-- ---- the byte form

leaf_bytes : (shape : Shape) (b : List ℕ) → leaf_fits shape (Bytes b) → AllBytes b
leaf_bytes (Scalar BigInteger) b f = f
leaf_bytes (Scalar ByteString) b f = f
leaf_bytes _ b f = absurd f

case_bytes : (shape : Shape) (m : ℕ) (b : List ℕ) → fits_in (Case m (Bytes b)) NoCase shape → AllBytes b
case_bytes (Choice rule cases) m b f = go (case_at cases m) f
  where
    go : (o : Option Found) → elim o as (λ _. Type 0) [ None ↦ ⊥ | Some c ↦ leaf_fits c.shape (Bytes b) ] → AllBytes b
    go None f = absurd f
    go (Some c) f = leaf_bytes c.shape b f
case_bytes (Scalar k) m b f = absurd f
case_bytes (OneOf es) m b f = absurd f
case_bytes (Rows rows) m b f = absurd f
case_bytes (RowsOrBytes n rows) m b f = absurd f
case_bytes Custom m b f = absurd f

form_bytes : (n : ℕ) (fs : Fields) (rows : RowList) (b : List ℕ) → fields_fit fs NoCase rows
    → byte_form n fs ≡ Some b → AllBytes b
form_bytes n (AndField (One (Case m (Bytes c))) fs) NoRow b f e = absurd f
form_bytes n (AndField (One (Case m (Bytes c))) fs) (AndRow name place mark role shape rows) b f e =
    go (nat_eq m n && all_absent fs) e
  where
    go : (q : Bool) → cond q (Some c) None ≡ Some b → AllBytes b
    go true k = subst AllBytes (some_same c b k) (case_bytes shape m c f.1)
    go false k = none_some _ k
form_bytes n _ rows b f e = none_some _ e

bytes_keep : (n : ℕ) (fs : Fields) (rows : RowList) (tag : ℕ) → tag < 2 ^ 24
    → fields_fit fs NoCase rows → Keeps (structure_of tag (field_trees fs NoCase rows))
    (rows_depth rows + 1)
    → Keeps (bytes_or tag (byte_form n fs) (structure_of tag (field_trees fs NoCase rows))) (rows_depth rows + 1)
bytes_keep n fs rows tag t f ih = go (byte_form n fs) refl
  where
    go : (o : Option (List ℕ)) → byte_form n fs ≡ o
        → Keeps (bytes_or tag o (structure_of tag (field_trees fs NoCase rows)))
        (rows_depth rows + 1)
    go None e = ih
    go (Some b) e = ((t, are_bytes b (form_bytes n fs rows b f e)), omega arith)

-- ---- values of a shape

mutual
  pub value_keeps : (v : Val) (around : Cases) (shape : Shape) (tag : ℕ)
      → cases_in_range around ≡ true → tags_in_range shape ≡ true → tag < 2 ^ 24
      → fits_in v around shape → Keeps (tree_in v around shape tag) (depth shape)
  value_keeps (Number z) around shape tag a r t f = leaf_keeps shape (Number z) tag t r f
  value_keeps (Text z) around shape tag a r t f = leaf_keeps shape (Text z) tag t r f
  value_keeps (Bytes z) around shape tag a r t f = leaf_keeps shape (Bytes z) tag t r f
  value_keeps (Truth z) around shape tag a r t f = leaf_keeps shape (Truth z) tag t r f
  value_keeps (Record fs) around (Rows rows) tag a r t f =
      structure_keeps tag (field_trees fs NoCase rows) (rows_depth rows) t (fields_keep fs rows r f)
  value_keeps (Record fs) around (RowsOrBytes n rows) tag a r t f =
      bytes_keep n fs rows tag t f (structure_keeps tag (field_trees fs NoCase rows)
      (rows_depth rows) t (fields_keep fs rows r f))
  value_keeps (Record fs) around Custom tag a r t f = custom_keeps around fs tag a t f
  value_keeps (Record fs) around (Scalar k) tag a r t f = tt
  value_keeps (Record fs) around (OneOf k) tag a r t f = tt
  value_keeps (Record fs) around (Choice rule k) tag a r t f = tt
  value_keeps (Case n v) around (Choice rule cases) tag a r t f =
      chosen_keeps cases n v tag r t f (λ c s u g. value_keeps v cases c.shape (tag_or c.tag tag) r s u g)
  value_keeps (Case n v) around (Scalar k) tag a r t f = tt
  value_keeps (Case n v) around (OneOf k) tag a r t f = tt
  value_keeps (Case n v) around (Rows k) tag a r t f = tt
  value_keeps (Case n v) around (RowsOrBytes m k) tag a r t f = tt
  value_keeps (Case n v) around Custom tag a r t f = tt

  fields_keep : (fs : Fields) (rows : RowList) → rows_in_range rows ≡ true
      → fields_fit fs NoCase rows → AllKeep (field_trees fs NoCase rows) (rows_depth rows)
  fields_keep NoField NoRow r f = (tt, omega arith)
  fields_keep NoField (AndRow name place mark role shape rows) r f = tt
  fields_keep (AndField d fs) NoRow r f = tt
  fields_keep (AndField d fs) (AndRow name place mark role shape rows) r f =
      let tail : (tags_in_range shape && rows_in_range rows) ≡ true =
      and_right (nat_lt (place_tag place) (2 ^ 24))
      (tags_in_range shape && rows_in_range rows) r in
      then_keeps (trees_in d NoCase shape (place_tag place)) (field_trees fs NoCase rows)
      (depth shape) (rows_depth rows) (max (depth shape) (rows_depth rows)) (omega arith)
      (omega arith)
      (field_keeps d shape (place_tag place)
      (and_left (tags_in_range shape) (rows_in_range rows) tail)
      (ltb-true (place_tag place) (2 ^ 24)
      (and_left (nat_lt (place_tag place) (2 ^ 24))
      (tags_in_range shape && rows_in_range rows) r)) f.1)
      (fields_keep fs rows (and_right (tags_in_range shape) (rows_in_range rows) tail) f.2)

  field_keeps : (d : Field) (shape : Shape) (tag : ℕ) → tags_in_range shape ≡ true → tag < 2 ^ 24
      → field_fits d NoCase shape → AllKeep (trees_in d NoCase shape tag) (depth shape)
  field_keeps Absent shape tag r t f = (tt, omega arith)
  field_keeps (One v) shape tag r t f =
      one_keeps (tree_in v NoCase shape tag) (depth shape)
      (value_keeps v NoCase shape tag refl r t f)
  field_keeps (Many vs) shape tag r t f = list_keeps vs shape tag r t f

  list_keeps : (vs : Vals) (shape : Shape) (tag : ℕ) → tags_in_range shape ≡ true → tag < 2 ^ 24
      → vals_fit vs NoCase shape → AllKeep (list_trees vs NoCase shape tag) (depth shape)
  list_keeps NoVal shape tag r t f = (tt, omega arith)
  list_keeps (AndVal v vs) shape tag r t f =
      then_keeps (one_tree (tree_in v NoCase shape tag)) (list_trees vs NoCase shape tag)
      (depth shape) (depth shape) (depth shape) (omega arith) (omega arith)
      (one_keeps (tree_in v NoCase shape tag) (depth shape)
      (value_keeps v NoCase shape tag refl r t f.0)) (list_keeps vs shape tag r t f.1)

-- the tree of a value that fits its shape
pub fits_ranges : (shape : Shape) (v : Val) (tag : ℕ) → tags_in_range shape ≡ true → tag < 2 ^ 24
    → Fits shape v → Keeps (tree_of shape tag v) (depth shape)
fits_ranges shape v tag r t f = value_keeps v NoCase shape tag refl r t f
