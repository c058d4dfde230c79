-- A value whose tree is read as itself has, in each choice, the case that is selected there.
use Rattle.std.proofs.Common.{◌≡◌, ℕ, Bool, true, false, cond, List, [], ◌∷◌, ◌++◌, Option, Some, None, IfSome, filter, refl, sym, ◌∙◌, ap, subst, append_assoc}
use Rattle.std.specs.Option.{option_map, option_and_then}
use Rattle.kmip_wire.specs.Tree.{Scalar as Leaf, Tree, scalar, structure, trees_of, list_of, list_of-trees_of}
use Rattle.kmip_wire.specs.Parts.{tag_of}
use Rattle.kmip_wire.specs.declared.kind.Kind.TheVariants.{Enumeration}
use Rattle.kmip_shape.specs.Val.{Val, Vals, Field, Fields, Number, Text, Bytes, Truth, Record, Case, Absent, One, Many, NoField, AndField, NoVal, AndVal}
use Rattle.kmip_shape.specs.Shape.{Shape, RowList, Cases, Mark, Required, Optional, AnyNumber, AtLeastOne, OptionalList, Place, Under, ByCase, place_tag, own_tags, in_place, outer_for, chosen_after, Scalar, OneOf, Rows, RowsOrBytes, Choice, Custom, NoRow, AndRow, NoCase, AndCase, Rule, OfNumber, OfName, OfTag, OuterValue, no_outer, Key, number_key, key_of, type_key, matches, selected_case, case_at, among, tag_or, leaf_of, val_of, attribute_value, Found}
use Rattle.kmip_shape.specs.Trees.{leaf_tree, structure_of, one_tree, bytes_or, byte_form, custom_trees, plain_tree, plain_trees, tree_in, field_trees, trees_in, list_trees}
use Rattle.kmip_shape.specs.Reads.{read_in, read_rows, read_case, marked_field, each, with_field, read_plain}
use Rattle.kmip_shape.specs.Fits.{mark_selected, plain_selected, all_plain, custom_selected, selected_in, fields_selected, field_selected, vals_selected, all_tags, rows_tags, place_stands, tags_once, rows_once, cases_once}
use Rattle.kmip_shape.proofs.Lists.{Inside, Inside-append, Inside-within, Outside, Outside-append, Outside-left, Outside-right, Outside-within, Outside-apart, Outside-apart', row_tags, with_tags, filter_place, with_tags-between, among-left, among-right}
use Rattle.kmip_shape.proofs.Parts.{none_some, some_same, found_some, one_some, then_some, structure_some, item_some, tag_plain}
use Rattle.kmip_shape.proofs.Cases.{among_same, read_selected, case_once, case_tag_among, selected_tag_among, fixed_none, choice_parts, row_within}
use Rattle.kmip_shape.proofs.Inside.{row_apart}

-- ---- the items that a field was read from

map_one : (o : Option Val) (v : Val) → option_map One o ≡ Some (One v) → o ≡ Some v
map_one None v h = none_some _ h
map_one (Some w) v h = let e : w ≡ v = cc in ap Some e

map_many : (o : Option Vals) (vs : Vals) → option_map Many o ≡ Some (Many vs) → o ≡ Some vs
map_many None vs h = none_some _ h
map_many (Some ws) vs h = let e : ws ≡ vs = cc in ap Some e

one_is_many : (o : Option Val) (vs : Vals) → option_map One o ≡ Some (Many vs) → ⊥
one_is_many None vs h = cc
one_is_many (Some w) vs h = cc

many_is_one : (o : Option Vals) (v : Val) → option_map Many o ≡ Some (One v) → ⊥
many_is_one None v h = cc
many_is_one (Some ws) v h = cc

counted_one : (mark : Mark) (read : Tree → Option Val) (ts : List Tree) (v : Val)
    → marked_field mark read ts ≡ Some (One v) → (t : Tree) × (ts ≡ t ∷ []) × (read t ≡ Some v)
counted_one Required read [] v h = none_some _ h
counted_one Required read (t ∷ []) v h = (t, refl, map_one (read t) v h)
counted_one Required read (t ∷ u ∷ ts) v h = none_some _ h
counted_one Optional read [] v h = absurd (cc)
counted_one Optional read (t ∷ []) v h = (t, refl, map_one (read t) v h)
counted_one Optional read (t ∷ u ∷ ts) v h = none_some _ h
counted_one AnyNumber read ts v h = absurd (many_is_one (each read ts) v h)
counted_one AtLeastOne read [] v h = none_some _ h
counted_one AtLeastOne read (t ∷ ts) v h = absurd (many_is_one (each read (t ∷ ts)) v h)
counted_one OptionalList read [] v h = absurd (cc)
counted_one OptionalList read (t ∷ ts) v h = absurd (many_is_one (each read (t ∷ ts)) v h)

each_none : (a : Option Val) (b : Option Vals) → option_and_then (λ val. option_map (AndVal val) b) a ≡ Some NoVal → ⊥
each_none None b h = cc
each_none (Some v) None h = cc
each_none (Some v) (Some vs) h = cc

each_more : (a : Option Val) (b : Option Vals) (v : Val) (vs : Vals)
    → option_and_then (λ val. option_map (AndVal val) b) a ≡ Some (AndVal v vs) → (a ≡ Some v)
    × (b ≡ Some vs)
each_more None b v vs h = none_some _ h
each_more (Some w) None v vs h = none_some _ h
each_more (Some w) (Some ws) v vs h =
    let e : w ≡ v = cc in
    let f : ws ≡ vs = cc in (ap Some e, ap Some f)

-- at least one item gives at least one value
not_empty : (read : Tree → Option Val) (t : Tree) (ts : List Tree) (vs : Vals) (P : Vals → Type 0)
    → ((v : Val) (ws : Vals) → P (AndVal v ws)) → each read (t ∷ ts) ≡ Some vs → P vs
not_empty read t ts NoVal P f h = absurd (each_none (read t) (each read ts) h)
not_empty read t ts (AndVal v ws) P f h = f v ws

counted_many : (mark : Mark) (read : Tree → Option Val) (ts : List Tree) (vs : Vals)
    → marked_field mark read ts ≡ Some (Many vs) → (each read ts ≡ Some vs)
    × mark_selected mark (Many vs)
counted_many Required read [] vs h = none_some _ h
counted_many Required read (t ∷ []) vs h = absurd (one_is_many (read t) vs h)
counted_many Required read (t ∷ u ∷ ts) vs h = none_some _ h
counted_many Optional read [] vs h = absurd (cc)
counted_many Optional read (t ∷ []) vs h = absurd (one_is_many (read t) vs h)
counted_many Optional read (t ∷ u ∷ ts) vs h = none_some _ h
counted_many AnyNumber read ts vs h = (map_many (each read ts) vs h, tt)
counted_many AtLeastOne read [] vs h = none_some _ h
counted_many AtLeastOne read (t ∷ ts) vs h =
    let e = map_many (each read (t ∷ ts)) vs h in (
      e,
      not_empty read t ts vs (λ (ws : Vals). mark_selected AtLeastOne (Many ws))
          (λ v ws. tt) e,
    )
counted_many OptionalList read [] vs h = absurd (cc)
counted_many OptionalList read (t ∷ ts) vs h =
    let e = map_many (each read (t ∷ ts)) vs h in (
      e,
      not_empty read t ts vs (λ (ws : Vals). mark_selected OptionalList (Many ws))
          (λ v ws. tt) e,
    )

mark_absent : (mark : Mark) → mark_selected mark Absent
mark_absent Required = tt
mark_absent Optional = tt
mark_absent AnyNumber = tt
mark_absent AtLeastOne = tt
mark_absent OptionalList = tt

mark_one : (mark : Mark) (v : Val) → mark_selected mark (One v)
mark_one Required v = tt
mark_one Optional v = tt
mark_one AnyNumber v = tt
mark_one AtLeastOne v = tt
mark_one OptionalList v = tt

fields_of : (o : Option Fields) (d e : Field) (fs : Fields)
    → option_map (AndField e) o ≡ Some (AndField d fs) → (e ≡ d) × (o ≡ Some fs)
fields_of None d e fs h = none_some _ h
fields_of (Some gs) d e fs h =
    let k : e ≡ d = cc in
    let l : gs ≡ fs = cc in (k, ap Some l)

-- the first field, and the fields after it
field_of : (o : Option Field) (rest : Field → Option Fields) (d : Field) (fs : Fields)
    → with_field o rest ≡ Some (AndField d fs) → (o ≡ Some d) × (rest d ≡ Some fs)
field_of None rest d fs h = none_some _ h
field_of (Some e) rest d fs h =
    let p = fields_of (rest e) d e fs h in (ap Some p.0, subst (λ (x : Field). rest x ≡ Some fs) p.0 p.1)

no_fields : (o : Option Field) (rest : Field → Option Fields) (P : Type 0) → with_field o rest ≡ Some NoField → P
no_fields None rest P h = none_some P h
no_fields (Some e) rest P h = go (rest e) h
  where
    go : (q : Option Fields) → option_map (AndField e) q ≡ Some NoField → P
    go None h = none_some P h
    go (Some gs) h = absurd (cc)

record_of : (o : Option Fields) (fs : Fields) → option_map Record o ≡ Some (Record fs) → o ≡ Some fs
record_of None fs h = none_some _ h
record_of (Some gs) fs h = let e : gs ≡ fs = cc in ap Some e

-- ---- the case that was read

case_of : (m n : ℕ) (o : Option Val) (v : Val) → option_map (Case m) o ≡ Some (Case n v) → (m ≡ n) × (o ≡ Some v)
case_of m n None v h = none_some _ h
case_of m n (Some w) v h =
    let e : m ≡ n = cc in
    let f : w ≡ v = cc in (e, ap Some f)

-- what is read of a choice is the case that the key selects
case_selected : (cases around : Cases) (key : Key) (n : ℕ) (v : Val) (outer : OuterValue) (t : Tree)
    → read_case cases around key outer t ≡ Some (Case n v) → selected_case key cases ≡ Some n
case_selected NoCase around key n v outer t h = none_some _ h
case_selected (AndCase m name selector fixed shape cases) around key n v outer t h =
    go (matches key selector) h (case_selected cases around key n v outer t)
  where
    go : (b : Bool) → cond b (option_map (Case m) (read_in shape around outer t))
        (read_case cases around key outer t) ≡ Some (Case n v)
        → (read_case cases around key outer t ≡ Some (Case n v) → selected_case key cases ≡ Some n)
        → cond b (Some m) (selected_case key cases) ≡ Some n
    go true e f = ap Some (case_of m n (read_in shape around outer t) v e).0
    go false e f = f e

-- what is selected of a value of a choice, where its item is known
at_case : (rule : Rule) (cases : Cases) (n : ℕ) (v : Val) (outer : OuterValue) (tag : ℕ) (t : Tree)
    (c : Found) → case_at cases n ≡ Some c → tree_in v cases c.shape (tag_or c.tag tag) ≡ Some t
    → selected_case (key_of rule cases outer t) cases ≡ Some n
    → selected_in v cases c.shape outer (tag_or c.tag tag) → selected_in (Case n v) NoCase (Choice rule cases) outer tag
at_case rule cases n v outer tag t c e h sel inner =
    let here : IfSome (tree_in v cases c.shape (tag_or c.tag tag))
    (λ u. selected_case (key_of rule cases outer u) cases ≡ Some n) =
    subst (λ (o : Option Tree). IfSome o (λ u. selected_case (key_of rule cases outer u) cases ≡ Some n)) (sym h) sel in
    subst (λ (o : Option Found). elim o as
    (λ _. Type 0) [
      | None ↦ Unit {0}
      | Some d ↦ IfSome
          (tree_in v cases d.shape (tag_or d.tag tag))
          (λ u. selected_case (key_of rule cases outer u) cases ≡ Some n)
          × selected_in v cases d.shape outer (tag_or d.tag tag)
    ])
    (sym e) (here, inner)

-- ---- the tags of the items that are read

-- the value was read from some item
abbrev Reads : Shape → OuterValue → Val → Type 0
Reads shape outer v = (t : Tree) × (read_in shape NoCase outer t ≡ Some v)

abbrev AllRead : Shape → OuterValue → Vals → Type 0
AllRead shape outer NoVal = Unit {0}
AllRead shape outer (AndVal v vs) = Reads shape outer v × AllRead shape outer vs

all_read : (shape : Shape) (outer : OuterValue) (ts : List Tree) (vs : Vals)
    → each (read_in shape NoCase outer) ts ≡ Some vs → AllRead shape outer vs
all_read shape outer ts NoVal h = tt
all_read shape outer [] (AndVal v vs) h = absurd (cc)
all_read shape outer (t ∷ ts) (AndVal v vs) h =
    let p = each_more (read_in shape NoCase outer t)
    (each (read_in shape NoCase outer) ts) v vs h in ((t, p.0), all_read shape outer ts vs p.1)

-- the item of a choice without fixed tags stands under the tag that is asked for
under_item : (shape : Shape) (v : Val) (tag : ℕ) (t : Tree) → place_stands (Under tag) shape ≡ true
    → tags_once shape ≡ true → tree_in v NoCase shape tag ≡ Some t → tag_of t ≡ tag
under_item (Choice rule cases) (Case n v) tag t good once h =
    let p = choice_parts rule cases n v NoCase tag t h in
    let ok = case_once cases n p.0 once p.1 in
    tag_plain v cases p.0.shape (tag_or p.0.tag tag) t ok.0 p.2 ∙ fixed_none cases n p.0 tag good p.1
under_item (Choice rule cases) (Number z) tag t good once h = none_some _ h
under_item (Choice rule cases) (Text z) tag t good once h = none_some _ h
under_item (Choice rule cases) (Bytes z) tag t good once h = none_some _ h
under_item (Choice rule cases) (Truth z) tag t good once h = none_some _ h
under_item (Choice rule cases) (Record z) tag t good once h = none_some _ h
under_item (Scalar kind) v tag t good once h = tag_plain v NoCase (Scalar kind) tag t refl h
under_item (OneOf entries) v tag t good once h = tag_plain v NoCase (OneOf entries) tag t refl h
under_item (Rows rows) v tag t good once h = tag_plain v NoCase (Rows rows) tag t refl h
under_item (RowsOrBytes n rows) v tag t good once h = tag_plain v NoCase (RowsOrBytes n rows) tag t refl h
under_item Custom v tag t good once h = tag_plain v NoCase Custom tag t refl h

-- the item of a choice by its case stands under the tag that the case fixes
case_item : (rule : Rule) (cases : Cases) (n : ℕ) (v : Val) (outer : OuterValue) (t : Tree)
    → place_stands ByCase (Choice rule cases) ≡ true → cases_once cases ≡ true
    → Reads (Choice rule cases) outer (Case n v)
    → tree_in (Case n v) NoCase (Choice rule cases) 0 ≡ Some t
    → among (tag_of t) (own_tags (Choice rule cases) outer) ≡ true
case_item rule cases n v outer t good once s h =
    let p = choice_parts rule cases n v NoCase 0 t h in
    let ok = case_once cases n p.0 once p.1 in
    go rule good p.0 p.1 (tag_plain v cases p.0.shape (tag_or p.0.tag 0) t ok.0 p.2)
    (case_selected cases cases (key_of rule cases outer s.0) n v outer s.0 s.1)
  where
    go : (rule : Rule) → place_stands ByCase (Choice rule cases) ≡ true → (c : Found)
        → case_at cases n ≡ Some c → tag_of t ≡ tag_or c.tag 0
        → selected_case (key_of rule cases outer s.0) cases ≡ Some n
        → among (tag_of t) (own_tags (Choice rule cases) outer) ≡ true
    go OfNumber good c e k sel = rw k (selected_tag_among cases (number_key outer.number) n c once sel e)
    go OfTag good c e k sel = rw k (case_tag_among cases n c e)
    go OfName good c e k sel = cc

item_inside : (place : Place) (shape : Shape) (v : Val) (outer : OuterValue) (t : Tree)
    → place_stands place shape ≡ true → tags_once shape ≡ true → Reads shape outer v
    → tree_in v NoCase shape (place_tag place) ≡ Some t
    → among (tag_of t) (row_tags place shape outer) ≡ true
item_inside (Under tag) shape v outer t good once s h = among_same (tag_of t) tag (under_item shape v tag t good once h)
item_inside ByCase (Choice rule cases) (Case n v) outer t good once s h = case_item rule cases n v outer t good once s h
item_inside ByCase (Choice rule cases) (Number z) outer t good once s h = none_some _ h
item_inside ByCase (Choice rule cases) (Text z) outer t good once s h = none_some _ h
item_inside ByCase (Choice rule cases) (Bytes z) outer t good once s h = none_some _ h
item_inside ByCase (Choice rule cases) (Truth z) outer t good once s h = none_some _ h
item_inside ByCase (Choice rule cases) (Record z) outer t good once s h = none_some _ h
item_inside ByCase (Scalar kind) v outer t good once s h = cc
item_inside ByCase (OneOf entries) v outer t good once s h = cc
item_inside ByCase (Rows rows) v outer t good once s h = cc
item_inside ByCase (RowsOrBytes n rows) v outer t good once s h = cc
item_inside ByCase Custom v outer t good once s h = cc

list_inside : (vs : Vals) (place : Place) (shape : Shape) (outer : OuterValue) (ts : List Tree)
    → place_stands place shape ≡ true → tags_once shape ≡ true → AllRead shape outer vs
    → list_trees vs NoCase shape (place_tag place) ≡ Some ts
    → Inside (row_tags place shape outer) ts
list_inside NoVal place shape outer ts good once s h =
    subst (λ (xs : List Tree). Inside (row_tags place shape outer) xs) (some_same [] ts h) tt
list_inside (AndVal v vs) place shape outer ts good once s h =
    let p = then_some (one_tree (tree_in v NoCase shape (place_tag place)))
    (list_trees vs NoCase shape (place_tag place)) ts h in
    let q = one_some (tree_in v NoCase shape (place_tag place)) p.0 p.2 in
    let first : Inside (row_tags place shape outer) p.0 =
    subst (λ (xs : List Tree). Inside (row_tags place shape outer) xs) q.2
    (item_inside place shape v outer q.0 good once s.0 q.1, tt) in
    subst (λ (xs : List Tree). Inside (row_tags place shape outer) xs) p.4
    (Inside-append (row_tags place shape outer) p.0 p.1 first
    (list_inside vs place shape outer p.1 good once s.1 p.3))

field_inside : (d : Field) (place : Place) (shape : Shape) (outer : OuterValue) (mark : Mark)
    (xs ts : List Tree) → place_stands place shape ≡ true → tags_once shape ≡ true
    → marked_field mark (read_in shape NoCase outer) xs ≡ Some d
    → trees_in d NoCase shape (place_tag place) ≡ Some ts → Inside (row_tags place shape outer) ts
field_inside Absent place shape outer mark xs ts good once c h =
    subst (λ (ys : List Tree). Inside (row_tags place shape outer) ys) (some_same [] ts h) tt
field_inside (One v) place shape outer mark xs ts good once c h =
    let q = one_some (tree_in v NoCase shape (place_tag place)) ts h in
    let r = counted_one mark (read_in shape NoCase outer) xs v c in
    subst (λ (ys : List Tree). Inside (row_tags place shape outer) ys) q.2
    (item_inside place shape v outer q.0 good once (r.0, r.2) q.1, tt)
field_inside (Many vs) place shape outer mark xs ts good once c h =
    list_inside vs place shape outer ts good once
    (all_read shape outer xs vs (counted_many mark (read_in shape NoCase outer) xs vs c).0) h

fields_inside : (fs : Fields) (rows : RowList) (outer chosen : OuterValue) (xs ts : List Tree)
    → rows_once rows ≡ true → read_rows rows outer chosen xs ≡ Some fs
    → field_trees fs NoCase rows ≡ Some ts → Inside (rows_tags rows) ts
fields_inside NoField NoRow outer chosen xs ts once r h =
    subst (λ (ys : List Tree). Inside [] ys) (some_same [] ts h) tt
fields_inside NoField (AndRow name place mark role shape rows) outer chosen xs ts once r h = none_some _ h
fields_inside (AndField d fs) NoRow outer chosen xs ts once r h = none_some _ h
fields_inside (AndField d fs) (AndRow name place mark role shape rows) outer chosen xs ts once r h =
    let own = outer_for role outer chosen in
    let p = then_some (trees_in d NoCase shape (place_tag place)) (field_trees fs NoCase rows) ts h in
    let o = row_apart place shape rows once in
    let w = field_of (marked_field mark (read_in shape NoCase own)
    (filter (in_place place shape own) xs))
    (λ e. read_rows rows outer (chosen_after role e chosen) xs) d fs r in
    let all = all_tags place shape ++ rows_tags rows in
    let first : Inside (row_tags place shape own) p.0 =
    field_inside d place shape own mark
    (filter (in_place place shape own) xs) p.0 o.1 o.2 w.0 p.2 in
    let first' : Inside all p.0 = Inside-within (row_tags place shape own) all p.0
    (λ n k. among-left n (all_tags place shape) (rows_tags rows)
    (row_within place shape own n k)) first in
    let rest : Inside all p.1 = Inside-within (rows_tags rows) all p.1
    (λ n k. among-right n (all_tags place shape) (rows_tags rows) k)
    (fields_inside fs rows outer (chosen_after role d chosen) xs p.1 o.3 w.1 p.3) in
    subst (λ (ys : List Tree). Inside all ys) p.4 (Inside-append all p.0 p.1 first' rest)

-- ---- custom structures

leaf_scalar : (shape : Shape) (tag : ℕ) (v : Val) (t : Tree) → leaf_tree shape tag v ≡ Some t
    → (l : Leaf) × (scalar tag l ≡ t)
leaf_scalar (Scalar kind) tag v t h = let i = item_some tag (leaf_of kind v) t h in (i.0, i.2)
leaf_scalar (OneOf entries) tag v t h = let i = item_some tag (leaf_of Enumeration v) t h in (i.0, i.2)
leaf_scalar _ tag v t h = none_some _ h

plain_of : (o : Option ℕ) (n : ℕ) (v w : Val) → option_map (λ m. Case m w) o ≡ Some (Case n v) → o ≡ Some n
plain_of None n v w h = none_some _ h
plain_of (Some m) n v w h = let e : m ≡ n = cc in ap Some e

plain : (around : Cases) (v : Val) (t : Tree) → plain_tree around v ≡ Some t
    → read_plain around t ≡ Some v → plain_selected around v
plain around (Case n v) t h r =
    let f = found_some (case_at around n) (λ c. leaf_tree c.shape attribute_value v) t h in
    let l = leaf_scalar f.0.shape attribute_value v t f.2 in
    let r' : read_plain around (scalar attribute_value l.0) ≡ Some (Case n v) =
    subst (λ (u : Tree). read_plain around u ≡ Some (Case n v)) (sym l.1) r in
    let k : selected_case (type_key (scalar attribute_value l.0)) around ≡ Some n =
    plain_of (selected_case (type_key (scalar attribute_value l.0)) around) n v
    (val_of l.0) r' in
    subst (λ (o : Option Tree). IfSome o (λ u. selected_case (type_key u) around ≡ Some n)) (sym h)
    (subst (λ (u : Tree). selected_case (type_key u) around ≡ Some n) l.1 k)
plain around (Number z) t h r = tt
plain around (Text z) t h r = tt
plain around (Bytes z) t h r = tt
plain around (Truth z) t h r = tt
plain around (Record z) t h r = tt

plains : (around : Cases) (vs : Vals) (ts : List Tree) → plain_trees around vs ≡ Some ts
    → each (read_plain around) ts ≡ Some vs → all_plain around vs
plains around NoVal ts h r = tt
plains around (AndVal v vs) ts h r =
    let p = then_some (one_tree (plain_tree around v)) (plain_trees around vs) ts h in
    let q = one_some (plain_tree around v) p.0 p.2 in
    let whole : q.0 ∷ p.1 ≡ ts = ap (λ (xs : List Tree). xs ++ p.1) q.2 ∙ p.4 in
    let r' : each (read_plain around) (q.0 ∷ p.1) ≡ Some (AndVal v vs) =
    subst (λ (xs : List Tree). each (read_plain around) xs ≡ Some (AndVal v vs))
    (sym whole) r in
    let e = each_more (read_plain around q.0) (each (read_plain around) p.1) v vs r' in
    (plain around v q.0 q.1 e.0, plains around vs p.1 p.3 e.1)

members_of : (o : Option Vals) (vs : Vals)
    → option_map (λ ws. Record (AndField (Many ws) NoField)) o
    ≡ Some (Record (AndField (Many vs) NoField)) → o ≡ Some vs
members_of None vs h = none_some _ h
members_of (Some ws) vs h = let e : ws ≡ vs = cc in ap Some e

custom : (fs : Fields) (around : Cases) (outer : OuterValue) (tag : ℕ) (t : Tree)
    → structure_of tag (custom_trees around fs) ≡ Some t
    → read_in Custom around outer t ≡ Some (Record fs) → custom_selected around fs
custom (AndField (Many vs) NoField) around outer tag t h r =
    let p = structure_some tag (plain_trees around vs) t h in
    let r' : option_map (λ ws. Record (AndField (Many ws) NoField))
    (each (read_plain around) (list_of (trees_of p.0)))
    ≡ Some (Record (AndField (Many vs) NoField)) =
    subst (λ (u : Tree). read_in Custom around outer u ≡ Some (Record (AndField (Many vs) NoField))) (sym p.2) r in
    let e : each (read_plain around) (list_of (trees_of p.0)) ≡ Some vs =
    members_of (each (read_plain around) (list_of (trees_of p.0))) vs r' in
    plains around vs p.0 p.1 (subst (λ (xs : List Tree). each (read_plain around) xs ≡ Some vs)
    (list_of-trees_of p.0) e)
custom NoField around outer tag t h r = tt
custom (AndField Absent fs) around outer tag t h r = tt
custom (AndField (One v) fs) around outer tag t h r = tt
custom (AndField (Many vs) (AndField f fs)) around outer tag t h r = none_some _ h

-- ---- records

-- the items of a record, and what its rows read of them
rows_again : (fs : Fields) (rows : RowList) (around : Cases) (outer : OuterValue) (tag : ℕ)
    (t : Tree) → structure_of tag (field_trees fs NoCase rows) ≡ Some t
    → read_in (Rows rows) around outer t ≡ Some (Record fs)
    → (ts : List Tree) × (field_trees fs NoCase rows ≡ Some ts) × (read_rows rows outer no_outer ts ≡ Some fs)
rows_again fs rows around outer tag t h r =
    let p = structure_some tag (field_trees fs NoCase rows) t h in
    let r' : option_map Record (read_rows rows outer no_outer (list_of (trees_of p.0)))
    ≡ Some (Record fs) = subst (λ (u : Tree). read_in (Rows rows) around outer u ≡ Some
    (Record fs)) (sym p.2) r in
    let e : read_rows rows outer no_outer (list_of (trees_of p.0)) ≡ Some fs =
    record_of (read_rows rows outer no_outer (list_of (trees_of p.0))) fs r' in
    (p.0, p.1, subst (λ (xs : List Tree). read_rows rows outer no_outer xs ≡ Some fs) (list_of-trees_of p.0) e)

bytes_again : (n : ℕ) (fs : Fields) (rows : RowList) (around : Cases) (outer : OuterValue) (tag : ℕ)
    (t : Tree) → tree_in (Record fs) around (RowsOrBytes n rows) tag ≡ Some t
    → read_in (RowsOrBytes n rows) around outer t ≡ Some (Record fs)
    → ((ts : List Tree) → field_trees fs NoCase rows ≡ Some ts
    → read_rows rows outer no_outer ts ≡ Some fs
    → fields_selected fs NoCase rows outer no_outer)
    → selected_in (Record fs) around (RowsOrBytes n rows) outer tag
bytes_again n fs rows around outer tag t h r f = go (byte_form n fs) h
  where
    go : (q : Option (List ℕ)) → bytes_or tag q (structure_of tag (field_trees fs NoCase rows))
        ≡ Some t → elim q as (λ _. Type 0)
        [ None ↦ fields_selected fs NoCase rows outer no_outer | Some b ↦ Unit {0} ]
    go None h =
        let p = structure_some tag (field_trees fs NoCase rows) t h in
        let r' : read_in (RowsOrBytes n rows) around outer (structure tag (trees_of p.0))
        ≡ Some (Record fs) = subst (λ (u : Tree). read_in (RowsOrBytes n rows) around outer u
        ≡ Some (Record fs)) (sym p.2) r in
        let q = rows_again fs rows around outer tag (structure tag (trees_of p.0)) (ap (structure_of tag) p.1) r' in
        f q.0 q.1 q.2
    go (Some b) h = tt

mutual
  pub selected : (v : Val) (around : Cases) (shape : Shape) (outer : OuterValue) (tag : ℕ)
      (t : Tree) → tags_once shape ≡ true → tree_in v around shape tag ≡ Some t
      → read_in shape around outer t ≡ Some v → selected_in v around shape outer tag
  selected (Number z) around shape outer tag t once h r = tt
  selected (Text z) around shape outer tag t once h r = tt
  selected (Bytes z) around shape outer tag t once h r = tt
  selected (Truth z) around shape outer tag t once h r = tt
  selected (Record fs) around (Rows rows) outer tag t once h r =
      let p = rows_again fs rows around outer tag t h r in
      fields_are fs rows outer no_outer [] p.0 once p.1 p.2 tt
  selected (Record fs) around (RowsOrBytes n rows) outer tag t once h r =
      bytes_again n fs rows around outer tag t h r (λ ts k q. fields_are fs rows outer no_outer [] ts once k q tt)
  selected (Record fs) around Custom outer tag t once h r = custom fs around outer tag t h r
  selected (Record fs) around (Scalar kind) outer tag t once h r = tt
  selected (Record fs) around (OneOf entries) outer tag t once h r = tt
  selected (Record fs) around (Choice rule cases) outer tag t once h r = tt
  selected (Case n v) around (Choice rule cases) outer tag t once h r =
      let key = key_of rule cases outer t in
      let p = choice_parts rule cases n v around tag t h in
      let good : cases_once cases ≡ true = once in
      let sel : selected_case key cases ≡ Some n = case_selected cases cases key n v outer t r in
      let own : option_map (Case n) (read_in p.0.shape cases outer t) ≡ Some (Case n v) =
      sym (read_selected cases cases key n p.0 outer t good sel p.1) ∙ r in
      let inner : selected_in v cases p.0.shape outer (tag_or p.0.tag tag) =
      selected v cases p.0.shape outer (tag_or p.0.tag tag) t
      (case_once cases n p.0 good p.1).1 p.2
      (case_of n n (read_in p.0.shape cases outer t) v own).1 in
      at_case rule cases n v outer tag t p.0 p.1 p.2 sel inner
  selected (Case n v) around (Scalar kind) outer tag t once h r = tt
  selected (Case n v) around (OneOf entries) outer tag t once h r = tt
  selected (Case n v) around (Rows rows) outer tag t once h r = tt
  selected (Case n v) around (RowsOrBytes m rows) outer tag t once h r = tt
  selected (Case n v) around Custom outer tag t once h r = tt

  fields_are : (fs : Fields) (rows : RowList) (outer chosen : OuterValue) (before ts : List Tree)
      → rows_once rows ≡ true → field_trees fs NoCase rows ≡ Some ts
      → read_rows rows outer chosen (before ++ ts) ≡ Some fs → Outside (rows_tags rows) before
      → fields_selected fs NoCase rows outer chosen
  fields_are NoField rows outer chosen before ts once h r b = tt
  fields_are (AndField d fs) NoRow outer chosen before ts once h r b = tt
  fields_are (AndField d fs) (AndRow name place mark role shape rows) outer chosen before ts once h r b =
      let own = outer_for role outer chosen in
      let p = then_some (trees_in d NoCase shape (place_tag place)) (field_trees fs NoCase rows) ts h in
      let g = row_apart place shape rows once in
      let w = field_of (marked_field mark (read_in shape NoCase own)
      (filter (in_place place shape own) (before ++ ts)))
      (λ e. read_rows rows outer (chosen_after role e chosen) (before ++ ts)) d fs r in
      let inside : Inside (row_tags place shape own) p.0 =
      field_inside d place shape own mark
      (filter (in_place place shape own) (before ++ ts)) p.0 g.1 g.2 w.0 p.2 in
      let inside' : Inside (all_tags place shape) p.0 =
      Inside-within (row_tags place shape own) (all_tags place shape) p.0
      (row_within place shape own) inside in
      let later : Inside (rows_tags rows) p.1 =
      fields_inside fs rows outer (chosen_after role d chosen) (before ++ ts) p.1 g.3 w.1 p.3 in
      let after : Outside (row_tags place shape own) p.1 =
      Outside-within (row_tags place shape own) (all_tags place shape) p.1
      (row_within place shape own)
      (Outside-apart (all_tags place shape) (rows_tags rows) p.1 g.0 later) in
      let earlier : Outside (row_tags place shape own) before =
      Outside-within (row_tags place shape own) (all_tags place shape) before
      (row_within place shape own)
      (Outside-left (all_tags place shape) (rows_tags rows) before b) in
      let between : with_tags (row_tags place shape own) (before ++ (p.0 ++ p.1)) ≡ p.0 =
      with_tags-between (row_tags place shape own) before p.0 p.1 earlier inside after in
      let own_items : filter (in_place place shape own) (before ++ ts) ≡ p.0 =
      filter_place place shape own (before ++ ts)
      ∙ subst (λ (xs : List Tree). with_tags (row_tags place shape own) (before ++ xs) ≡ p.0)
      p.4 between in
      let here : marked_field mark (read_in shape NoCase own) p.0 ≡ Some d =
      subst (λ (xs : List Tree). marked_field mark (read_in shape NoCase own) xs ≡ Some d)
      own_items w.0 in
      let split : (before ++ p.0) ++ p.1 ≡ before ++ ts =
      append_assoc before p.0 p.1 ∙ ap (λ (xs : List Tree). before ++ xs) p.4 in
      let out : Outside (rows_tags rows) (before ++ p.0) =
      Outside-append (rows_tags rows) before p.0
      (Outside-right (all_tags place shape) (rows_tags rows) before b)
      (Outside-apart' (all_tags place shape) (rows_tags rows) p.0 g.0 inside') in
      let rest : read_rows rows outer (chosen_after role d chosen) ((before ++ p.0) ++ p.1)
      ≡ Some fs = subst (λ (xs : List Tree).
      read_rows rows outer (chosen_after role d chosen) xs ≡ Some fs) (sym split) w.1 in
      let field = field_is d shape own (place_tag place) mark p.0 g.2 p.2 here in
      (field.0, field.1, fields_are fs rows outer (chosen_after role d chosen) (before ++ p.0) p.1 g.3 p.3 rest out)

  field_is : (d : Field) (shape : Shape) (outer : OuterValue) (tag : ℕ) (mark : Mark)
      (ts : List Tree) → tags_once shape ≡ true → trees_in d NoCase shape tag ≡ Some ts
      → marked_field mark (read_in shape NoCase outer) ts ≡ Some d → mark_selected mark d
      × field_selected d NoCase shape outer tag
  field_is Absent shape outer tag mark ts once h c = (mark_absent mark, tt)
  field_is (One v) shape outer tag mark ts once h c =
      let q = one_some (tree_in v NoCase shape tag) ts h in
      let r = counted_one mark (read_in shape NoCase outer) ts v c in
      let both : q.0 ∷ [] ≡ r.0 ∷ [] = q.2 ∙ r.1 in
      let same : r.0 ≡ q.0 = cc in (
        mark_one mark v,
        selected v NoCase shape outer tag q.0 once q.1
            (subst (λ (u : Tree). read_in shape NoCase outer u ≡ Some v) same r.2),
      )
  field_is (Many vs) shape outer tag mark ts once h c =
      let m = counted_many mark (read_in shape NoCase outer) ts vs c in (m.1, list_is vs shape outer tag ts once h m.0)

  list_is : (vs : Vals) (shape : Shape) (outer : OuterValue) (tag : ℕ) (ts : List Tree)
      → tags_once shape ≡ true → list_trees vs NoCase shape tag ≡ Some ts
      → each (read_in shape NoCase outer) ts ≡ Some vs → vals_selected vs NoCase shape outer tag
  list_is NoVal shape outer tag ts once h r = tt
  list_is (AndVal v vs) shape outer tag ts once h r =
      let p = then_some (one_tree (tree_in v NoCase shape tag)) (list_trees vs NoCase shape tag) ts h in
      let q = one_some (tree_in v NoCase shape tag) p.0 p.2 in
      let whole : q.0 ∷ p.1 ≡ ts = ap (λ (xs : List Tree). xs ++ p.1) q.2 ∙ p.4 in
      let r' : each (read_in shape NoCase outer) (q.0 ∷ p.1) ≡ Some (AndVal v vs) =
      subst (λ (xs : List Tree). each (read_in shape NoCase outer) xs ≡ Some (AndVal v vs))
      (sym whole) r in
      let e = each_more (read_in shape NoCase outer q.0) (each (read_in shape NoCase outer) p.1) v vs r' in
      (selected v NoCase shape outer tag q.0 once q.1 e.0, list_is vs shape outer tag p.1 once p.3 e.1)
