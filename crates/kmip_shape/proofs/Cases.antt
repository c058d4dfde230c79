-- The case that a choice selects, and the tag of its item.
use Rattle.std.proofs.Common.{◌≡◌, ℕ, Bool, true, false, cond, ◌&&◌, not, List, [], ◌∷◌, Option, Some, None, nat_eq, IfSome, refl, ◌∙◌, ap, subst, eq-eqb}
use Rattle.kmip_wire.specs.Tree.{Tree}
use Rattle.kmip_wire.specs.Parts.{tag_of}
use Rattle.kmip_shape.specs.Val.{Val, Number, Text, Bytes, Truth, Record, Case}
use Rattle.kmip_shape.specs.Shape.{Shape, Cases, Place, Under, ByCase, place_tag, own_tags, Scalar, OneOf, Rows, RowsOrBytes, Choice, Custom, NoCase, AndCase, Rule, OfNumber, OfName, OfTag, Selector, OuterValue, Key, number_key, key_of, matches, selected_case, selected_tags, case_at, case_tags, among, tag_or, Found}
use Rattle.kmip_shape.specs.Trees.{has_wire_form, tree_in}
use Rattle.kmip_shape.specs.Reads.{read_in, read_case}
use Rattle.std.specs.Option.{option_map}
use Rattle.kmip_shape.specs.Fits.{selected_in, all_tags, numbers, fixes_none, place_stands, is_choice, tags_once, cases_once}
use Rattle.kmip_shape.proofs.Lists.{and_left, and_right, not_true, or_right, or_cases, eq_same, Within, row_tags}
use Rattle.kmip_shape.proofs.Parts.{none_some, some_same, found_some, cond_some, at_found, at_tree, tag_plain}

pub among_self : (n : ℕ) (ns : List ℕ) → among n (n ∷ ns) ≡ true
among_self n ns = rw (eq-eqb n n refl) refl

pub among_same : (m n : ℕ) → m ≡ n → among m (n ∷ []) ≡ true
among_same m n e = subst (λ (k : ℕ). among m (k ∷ []) ≡ true) e (among_self m [])

-- a number that is selected is one of the cases'
pub selected_among : (key : Key) (cases : Cases) (n : ℕ) → selected_case key cases ≡ Some n
    → among n (numbers cases) ≡ true
selected_among key NoCase n h = none_some _ h
selected_among key (AndCase m name selector fixed shape cases) n h =
    go (matches key selector) (selected_case key cases) (selected_among key cases n) h
  where
    go : (b : Bool) (rest : Option ℕ) → (rest ≡ Some n → among n (numbers cases) ≡ true)
        → cond b (Some m) rest ≡ Some n → among n (m ∷ numbers cases) ≡ true
    go true rest f e = subst (λ (k : ℕ). among k (m ∷ numbers cases) ≡ true) (some_same m n e)
        (among_self m (numbers cases))
    go false rest f e = or_right (nat_eq m n) (among n (numbers cases)) (f e)

-- A number that is among the later cases is none of the first.
other : (m n : ℕ) (ns : List ℕ) → among m ns ≡ false → among n ns ≡ true → nat_eq m n ≡ false
other m n ns f h = go (nat_eq m n) refl
  where
    go : (b : Bool) → nat_eq m n ≡ b → nat_eq m n ≡ false
    go true e = let k : among m ns ≡ true = rw (eq_same m n e) h in cc
    go false e = e

-- what is read by a key is read by the case that it selects
pub read_selected : (cases around : Cases) (key : Key) (n : ℕ) (c : Found) (outer : OuterValue)
    (t : Tree) → cases_once cases ≡ true → selected_case key cases ≡ Some n
    → case_at cases n ≡ Some c → read_case cases around key outer t
    ≡ option_map (Case n) (read_in c.shape around outer t)
read_selected NoCase around key n c outer t once h e = none_some _ h
read_selected (AndCase m name selector fixed shape cases) around key n c outer t once h e =
    go (matches key selector) h (read_selected cases around key n c outer t
    (and_right (tags_once shape) (cases_once cases)
    (and_right (not (is_choice shape)) (tags_once shape && cases_once cases)
    (and_right (not (among m (numbers cases)))
    (not (is_choice shape) && (tags_once shape && cases_once cases)) once))))
  where
    go : (b : Bool) → cond b (Some m) (selected_case key cases) ≡ Some n
        → (selected_case key cases ≡ Some n → case_at cases n ≡ Some c
        → read_case cases around key outer t
        ≡ option_map (Case n) (read_in c.shape around outer t))
        → cond b (option_map (Case m) (read_in shape around outer t))
        (read_case cases around key outer t)
        ≡ option_map (Case n) (read_in c.shape around outer t)
    go true s f =
        let k : m ≡ n = some_same m n s in
        let d' : Some (record { name = name; selector = selector; tag = fixed; shape = shape })
        ≡ Some c = rw (eq-eqb m n k) at e in
        let g : record { name = name; selector = selector; tag = fixed; shape = shape } ≡ c = some_same _ c d' in
        rw k (ap (λ (x : Found). option_map (Case n) (read_in x.shape around outer t)) g)
    go false s f =
        let ne : nat_eq m n ≡ false = other m n (numbers cases)
        (not_true (among m (numbers cases))
        (and_left (not (among m (numbers cases)))
        (not (is_choice shape) && (tags_once shape && cases_once cases)) once))
        (selected_among key cases n s) in
        let e' : case_at cases n ≡ Some c = rw ne at e in
        f s e'

pub once_rest : (n : ℕ) (name : List ℕ) (selector : Selector) (fixed : Option ℕ) (shape : Shape)
    (cases : Cases) → cases_once (AndCase n name selector fixed shape cases) ≡ true
    → cases_once cases ≡ true
once_rest n name selector fixed shape cases once =
    and_right (tags_once shape) (cases_once cases)
    (and_right (not (is_choice shape)) (tags_once shape && cases_once cases)
    (and_right (not (among n (numbers cases)))
    (not (is_choice shape) && (tags_once shape && cases_once cases)) once))

-- a case that stands in a good choice is no choice itself, and has no tag twice
pub case_once : (cases : Cases) (n : ℕ) (c : Found) → cases_once cases ≡ true
    → case_at cases n ≡ Some c → (is_choice c.shape ≡ false) × (tags_once c.shape ≡ true)
case_once NoCase n c once h = none_some _ h
case_once (AndCase m name selector fixed shape cases) n c once h =
    go (nat_eq m n) h (case_once cases n c (once_rest m name selector fixed shape cases once))
  where
    go : (b : Bool) → cond b (Some (record {
      name = name;
      selector = selector;
      tag = fixed;
      shape =
          shape;
    })) (case_at cases n) ≡ Some c
        → (case_at cases n ≡ Some c → (is_choice c.shape ≡ false) × (tags_once c.shape ≡ true))
        → (is_choice c.shape ≡ false) × (tags_once c.shape ≡ true)
    go true e f =
        let g : record { name = name; selector = selector; tag = fixed; shape = shape } ≡ c = some_same _ c e in
        let rest : (not (is_choice shape) && (tags_once shape && cases_once cases)) ≡ true =
        and_right (not (among m (numbers cases)))
        (not (is_choice shape) && (tags_once shape && cases_once cases)) once in
        subst (λ (x : Found). (is_choice x.shape ≡ false) × (tags_once x.shape ≡ true)) g (
          not_true (is_choice shape) (and_left (not (is_choice shape))
              (tags_once shape && cases_once cases) rest),
          and_left (tags_once shape) (cases_once cases)
              (and_right (not (is_choice shape)) (tags_once shape && cases_once cases) rest),
        )
    go false e f = f e

pub case_tag_among : (cases : Cases) (n : ℕ) (c : Found) → case_at cases n ≡ Some c
    → among (tag_or c.tag 0) (case_tags cases) ≡ true
case_tag_among NoCase n c h = none_some _ h
case_tag_among (AndCase m name selector fixed shape cases) n c h = go (nat_eq m n) h (case_tag_among cases n c)
  where
    go : (b : Bool) → cond b (Some (record {
      name = name;
      selector = selector;
      tag = fixed;
      shape =
          shape;
    })) (case_at cases n) ≡ Some c
        → (case_at cases n ≡ Some c → among (tag_or c.tag 0) (case_tags cases) ≡ true)
        → among (tag_or c.tag 0) (tag_or fixed 0 ∷ case_tags cases) ≡ true
    go true e f =
        let g : record { name = name; selector = selector; tag = fixed; shape = shape } ≡ c = some_same _ c e in
        subst (λ (x : Found). among (tag_or x.tag 0) (tag_or fixed 0 ∷ case_tags cases) ≡ true) g
        (among_self (tag_or fixed 0) (case_tags cases))
    go false e f = or_right (nat_eq (tag_or fixed 0) (tag_or c.tag 0)) (among (tag_or c.tag 0) (case_tags cases)) (f e)

pub selected_tag_among : (cases : Cases) (key : Key) (n : ℕ) (c : Found) → cases_once cases ≡ true
    → selected_case key cases ≡ Some n → case_at cases n ≡ Some c
    → among (tag_or c.tag 0) (selected_tags key cases) ≡ true
selected_tag_among NoCase key n c once s h = none_some _ h
selected_tag_among (AndCase m name selector fixed shape cases) key n c once s h =
    go (matches key selector) s (selected_tag_among cases key n c (once_rest m name selector fixed shape cases once))
  where
    go : (b : Bool) → cond b (Some m) (selected_case key cases) ≡ Some n
        → (selected_case key cases ≡ Some n → case_at cases n ≡ Some c
        → among (tag_or c.tag 0) (selected_tags key cases) ≡ true)
        → among (tag_or c.tag 0) (cond b (tag_or fixed 0 ∷ []) (selected_tags key cases)) ≡ true
    go true s f =
        let k : m ≡ n = some_same m n s in
        let d' : Some (record { name = name; selector = selector; tag = fixed; shape = shape })
        ≡ Some c = rw (eq-eqb m n k) at h in
        let g : record { name = name; selector = selector; tag = fixed; shape = shape } ≡ c = some_same _ c d' in
        subst (λ (x : Found). among (tag_or x.tag 0) (tag_or fixed 0 ∷ []) ≡ true) g (among_self (tag_or fixed 0) [])
    go false s f =
        let ne : nat_eq m n ≡ false = other m n (numbers cases)
        (not_true (among m (numbers cases))
        (and_left (not (among m (numbers cases)))
        (not (is_choice shape) && (tags_once shape && cases_once cases)) once))
        (selected_among key cases n s) in
        let e' : case_at cases n ≡ Some c = rw ne at h in
        f s e'

pub fixed_none : (cases : Cases) (n : ℕ) (c : Found) (tag : ℕ) → fixes_none cases ≡ true
    → case_at cases n ≡ Some c → tag_or c.tag tag ≡ tag
fixed_none NoCase n c tag f h = none_some _ h
fixed_none (AndCase m name selector (Some t) shape cases) n c tag f h = cc
fixed_none (AndCase m name selector None shape cases) n c tag f h = go (nat_eq m n) h (fixed_none cases n c tag f)
  where
    go : (b : Bool) → cond b (Some (record {
      name = name;
      selector = selector;
      tag = None;
      shape =
          shape;
    })) (case_at cases n) ≡ Some c
        → (case_at cases n ≡ Some c → tag_or c.tag tag ≡ tag) → tag_or c.tag tag ≡ tag
    go true e f =
        let g : record { name = name; selector = selector; tag = None; shape = shape } ≡ c = some_same _ c e in
        subst (λ (x : Found). tag_or x.tag tag ≡ tag) g refl
    go false e f = f e

-- What a value of a choice writes is an item of the case with its number.
pub choice_parts : (rule : Rule) (cases : Cases) (n : ℕ) (v : Val) (around : Cases) (tag : ℕ)
    (t : Tree) → tree_in (Case n v) around (Choice rule cases) tag ≡ Some t
    → (c : Found) × (case_at cases n ≡ Some c) × (tree_in v cases c.shape (tag_or c.tag tag) ≡ Some t)
choice_parts rule cases n v around tag t h =
    let f = found_some (case_at cases n)
    (λ c. cond (has_wire_form c.selector) (tree_in v cases c.shape (tag_or c.tag tag)) None)
    t h in
    let g = cond_some (has_wire_form f.0.selector) (tree_in v cases f.0.shape (tag_or f.0.tag tag)) t f.2 in
    (f.0, f.1, g.1)

-- what is selected of a value of a choice
pub choice_selected : (rule : Rule) (cases : Cases) (n : ℕ) (v : Val) (around : Cases)
    (outer : OuterValue) (tag : ℕ) (t : Tree) (c : Found)
    → selected_in (Case n v) around (Choice rule cases) outer tag → case_at cases n ≡ Some c
    → tree_in v cases c.shape (tag_or c.tag tag) ≡ Some t
    → (selected_case (key_of rule cases outer t) cases ≡ Some n) × selected_in v cases c.shape outer (tag_or c.tag tag)
choice_selected rule cases n v around outer tag t c s e h =
    let p = at_found (case_at cases n) c
    (λ d. IfSome (tree_in v cases d.shape (tag_or d.tag tag))
    (λ t. selected_case (key_of rule cases outer t) cases ≡ Some n)
    × selected_in v cases d.shape outer (tag_or d.tag tag)) e s in (
      at_tree (tree_in v cases c.shape (tag_or c.tag tag)) t
          (λ t. selected_case (key_of rule cases outer t) cases ≡ Some n) h p.0,
      p.1,
    )

-- the item of a choice without fixed tags stands under the tag that is asked for
under_item : (shape : Shape) (v : Val) (around : Cases) (tag : ℕ) (t : Tree)
    → place_stands (Under tag) shape ≡ true → tags_once shape ≡ true
    → tree_in v around shape tag ≡ Some t → tag_of t ≡ tag
under_item (Choice rule cases) (Case n v) around tag t good once h =
    let p = choice_parts rule cases n v around tag t h in
    let ok = case_once cases n p.0 once p.1 in
    tag_plain v cases p.0.shape (tag_or p.0.tag tag) t ok.0 p.2 ∙ fixed_none cases n p.0 tag good p.1
under_item (Choice rule cases) (Number z) around tag t good once h = none_some _ h
under_item (Choice rule cases) (Text z) around tag t good once h = none_some _ h
under_item (Choice rule cases) (Bytes z) around tag t good once h = none_some _ h
under_item (Choice rule cases) (Truth z) around tag t good once h = none_some _ h
under_item (Choice rule cases) (Record z) around tag t good once h = none_some _ h
under_item (Scalar kind) v around tag t good once h = tag_plain v around (Scalar kind) tag t refl h
under_item (OneOf entries) v around tag t good once h = tag_plain v around (OneOf entries) tag t refl h
under_item (Rows rows) v around tag t good once h = tag_plain v around (Rows rows) tag t refl h
under_item (RowsOrBytes n rows) v around tag t good once h = tag_plain v around (RowsOrBytes n rows) tag t refl h
under_item Custom v around tag t good once h = tag_plain v around Custom tag t refl h

-- the item of a choice by its case stands under the tag that the selected case fixes
case_item : (rule : Rule) (cases : Cases) (n : ℕ) (v : Val) (around : Cases) (outer : OuterValue)
    (t : Tree) → place_stands ByCase (Choice rule cases) ≡ true → cases_once cases ≡ true
    → selected_in (Case n v) around (Choice rule cases) outer 0
    → tree_in (Case n v) around (Choice rule cases) 0 ≡ Some t
    → among (tag_of t) (own_tags (Choice rule cases) outer) ≡ true
case_item rule cases n v around outer t good once s h =
    let p = choice_parts rule cases n v around 0 t h in
    let q = choice_selected rule cases n v around outer 0 t p.0 s p.1 p.2 in
    let ok = case_once cases n p.0 once p.1 in
    go rule good p.0 p.1 (tag_plain v cases p.0.shape (tag_or p.0.tag 0) t ok.0 p.2) q.0
  where
    go : (rule : Rule) → place_stands ByCase (Choice rule cases) ≡ true → (c : Found)
        → case_at cases n ≡ Some c → tag_of t ≡ tag_or c.tag 0
        → selected_case (key_of rule cases outer t) cases ≡ Some n
        → among (tag_of t) (own_tags (Choice rule cases) outer) ≡ true
    go OfNumber good c e k sel = rw k (selected_tag_among cases (number_key outer.number) n c once sel e)
    go OfTag good c e k sel = rw k (case_tag_among cases n c e)
    go OfName good c e k sel = cc

-- the item of a selected value stands under a tag of its row
pub tag_item : (place : Place) (shape : Shape) (v : Val) (around : Cases) (outer : OuterValue)
    (t : Tree) → place_stands place shape ≡ true → tags_once shape ≡ true
    → selected_in v around shape outer (place_tag place)
    → tree_in v around shape (place_tag place) ≡ Some t
    → among (tag_of t) (row_tags place shape outer) ≡ true
tag_item (Under tag) shape v around outer t good once s h =
    among_same (tag_of t) tag (under_item shape v around tag t good once h)
tag_item ByCase (Choice rule cases) (Case n v) around outer t good once s h =
    case_item rule cases n v around outer t good once s h
tag_item ByCase (Choice rule cases) (Number z) around outer t good once s h = none_some _ h
tag_item ByCase (Choice rule cases) (Text z) around outer t good once s h = none_some _ h
tag_item ByCase (Choice rule cases) (Bytes z) around outer t good once s h = none_some _ h
tag_item ByCase (Choice rule cases) (Truth z) around outer t good once s h = none_some _ h
tag_item ByCase (Choice rule cases) (Record z) around outer t good once s h = none_some _ h
tag_item ByCase (Scalar kind) v around outer t good once s h = cc
tag_item ByCase (OneOf entries) v around outer t good once s h = cc
tag_item ByCase (Rows rows) v around outer t good once s h = cc
tag_item ByCase (RowsOrBytes n rows) v around outer t good once s h = cc
tag_item ByCase Custom v around outer t good once s h = cc

-- those tags are among all tags of the row
selected_within : (key : Key) (cases : Cases) → Within (selected_tags key cases) (case_tags cases)
selected_within key NoCase n h = h
selected_within key (AndCase m name selector fixed shape cases) n h =
    go (matches key selector) h (selected_within key cases n)
  where
    go : (b : Bool) → among n (cond b (tag_or fixed 0 ∷ []) (selected_tags key cases)) ≡ true
        → (among n (selected_tags key cases) ≡ true → among n (case_tags cases) ≡ true)
        → among n (tag_or fixed 0 ∷ case_tags cases) ≡ true
    go true e f = or_cases (nat_eq (tag_or fixed 0) n) false
        (among n (tag_or fixed 0 ∷ case_tags cases) ≡ true) e (λ k. rw k refl) (λ k l. cc)
    go false e f = or_right (nat_eq (tag_or fixed 0) n) (among n (case_tags cases)) (f e)

pub row_within : (place : Place) (shape : Shape) (outer : OuterValue)
    → Within (row_tags place shape outer) (all_tags place shape)
row_within (Under tag) shape outer n h = h
row_within ByCase (Choice OfNumber cases) outer n h = selected_within (number_key outer.number) cases n h
row_within ByCase (Choice OfName cases) outer n h = cc
row_within ByCase (Choice OfTag cases) outer n h = h
row_within ByCase (Scalar kind) outer n h = h
row_within ByCase (OneOf entries) outer n h = h
row_within ByCase (Rows rows) outer n h = h
row_within ByCase (RowsOrBytes m rows) outer n h = h
row_within ByCase Custom outer n h = h
