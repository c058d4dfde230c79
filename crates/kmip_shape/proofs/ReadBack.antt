-- The tree of a selected value reads as that value.
use Rattle.std.proofs.Common.{◌≡◌, ℕ, Bool, true, false, cond, ◌&&◌, List, [], ◌∷◌, ◌++◌, Option, Some, None, nat_eq, filter, refl, sym, ◌∙◌, ap, subst, append_assoc}
use Rattle.kmip_wire.specs.Tree.{Scalar as Leaf, Tree, scalar, structure, trees_of, list_of, list_of-trees_of, byte_string}
use Rattle.kmip_wire.specs.Kinds.{code_of, kind_of_scalar}
use Rattle.kmip_wire.specs.declared.kind.Kind.TheVariants.{Enumeration}
use Rattle.kmip_shape.specs.Val.{Val, Vals, Field, Fields, Number, Text, Bytes, Truth, Record, Case, Absent, One, Many, NoField, AndField, NoVal, AndVal}
use Rattle.kmip_shape.specs.Shape.{Shape, RowList, Cases, Mark, Required, Optional, AnyNumber, AtLeastOne, OptionalList, place_tag, in_place, outer_for, chosen_after, Scalar, OneOf, Rows, RowsOrBytes, Choice, Custom, NoRow, AndRow, NoCase, OuterValue, no_outer, TypeKey, key_of, type_key, selected_case, case_at, tag_or, leaf_of, val_of, attribute_value}
use Rattle.kmip_shape.specs.Trees.{leaf_tree, structure_of, one_tree, bytes_or, byte_form, all_absent, custom_trees, plain_tree, plain_trees, tree_in, field_trees, trees_in, list_trees}
use Rattle.kmip_shape.specs.Reads.{read_in, read_rows, marked_field, each, read_plain, bytes_record, absent_fields}
use Rattle.std.specs.Option.{option_map}
use Rattle.kmip_shape.specs.Fits.{mark_fits, fits_in, fields_fit, field_fits, vals_fit, mark_selected, plain_selected, all_plain, custom_selected, selected_in, fields_selected, field_selected, vals_selected, all_tags, rows_tags, tags_once, rows_once, cases_once}
use Rattle.kmip_shape.proofs.Lists.{and_left, and_right, eq_same, Inside, Outside, Inside-within, Outside-append, Outside-left, Outside-right, Outside-within, Outside-apart, Outside-apart', row_tags, with_tags, filter_place, with_tags-between}
use Rattle.kmip_shape.proofs.Parts.{none_some, some_same, found_some, at_found_fits, at_tree, one_some, then_some, structure_some, leaf_law, kind_law, item_some}
use Rattle.kmip_shape.proofs.Cases.{row_within, choice_parts, choice_selected, case_once, read_selected}
use Rattle.kmip_shape.proofs.Inside.{field_inside, fields_inside, row_apart}

mark_absent : (mark : Mark) (read : Tree → Option Val) → mark_fits mark Absent → marked_field mark read [] ≡ Some Absent
mark_absent Required read f = absurd f
mark_absent Optional read f = refl
mark_absent AnyNumber read f = absurd f
mark_absent AtLeastOne read f = absurd f
mark_absent OptionalList read f = refl

mark_one : (mark : Mark) (read : Tree → Option Val) (t : Tree) (v : Val) → mark_fits mark (One v)
    → read t ≡ Some v → marked_field mark read (t ∷ []) ≡ Some (One v)
mark_one Required read t v f h = ap (option_map One) h
mark_one Optional read t v f h = ap (option_map One) h
mark_one _ read t v f h = absurd f

mark_many : (mark : Mark) (read : Tree → Option Val) (ts : List Tree) (vs : Vals)
    → mark_fits mark (Many vs) → mark_selected mark (Many vs) → each read ts ≡ Some vs
    → marked_field mark read ts ≡ Some (Many vs)
mark_many AnyNumber read ts vs f s h = ap (option_map Many) h
mark_many AtLeastOne read (t ∷ ts) vs f s h = ap (option_map Many) h
mark_many AtLeastOne read [] NoVal f s h = absurd s
mark_many AtLeastOne read [] (AndVal v vs) f s h = cc
mark_many OptionalList read (t ∷ ts) vs f s h = ap (option_map Many) h
mark_many OptionalList read [] NoVal f s h = absurd s
mark_many OptionalList read [] (AndVal v vs) f s h = cc
mark_many Required read ts vs f s h = absurd f
mark_many Optional read ts vs f s h = absurd f

-- a leaf's tree, and its value again
leaf_parts : (shape : Shape) (tag : ℕ) (v : Val) (t : Tree) → leaf_tree shape tag v ≡ Some t
    → (l : Leaf) × (scalar tag l ≡ t) × (val_of l ≡ v)
leaf_parts (Scalar kind) tag v t h =
    let i = item_some tag (leaf_of kind v) t h in (i.0, i.2, (kind_law kind v i.0 tag i.1).1)
leaf_parts (OneOf entries) tag v t h =
    let i = item_some tag (leaf_of Enumeration v) t h in
    (i.0, i.2, (kind_law Enumeration v i.0 tag i.1).1)
leaf_parts _ tag v t h = none_some _ h

plain_law : (around : Cases) (v : Val) (t : Tree) → plain_selected around v
    → plain_tree around v ≡ Some t → read_plain around t ≡ Some v
plain_law around (Case n v) t s h =
    let f = found_some (case_at around n) (λ c. leaf_tree c.shape attribute_value v) t h in
    let l = leaf_parts f.0.shape attribute_value v t f.2 in
    let k = at_tree (plain_tree around (Case n v)) t (λ t. selected_case (type_key t) around ≡ Some n) h s in
    let k' : selected_case (TypeKey (code_of (kind_of_scalar l.0))) around ≡ Some n =
    subst (λ (u : Tree). selected_case (type_key u) around ≡ Some n) (sym l.1) k in
    subst (λ (u : Tree). read_plain around u ≡ Some (Case n v)) l.1 (rw k' (ap (λ (x : Val). Some (Case n x)) l.2))
plain_law around (Number z) t s h = none_some _ h
plain_law around (Text z) t s h = none_some _ h
plain_law around (Bytes z) t s h = none_some _ h
plain_law around (Truth z) t s h = none_some _ h
plain_law around (Record z) t s h = none_some _ h

plains_law : (around : Cases) (vs : Vals) (ts : List Tree) → all_plain around vs
    → plain_trees around vs ≡ Some ts → each (read_plain around) ts ≡ Some vs
plains_law around NoVal ts s h = subst
    (λ (xs : List Tree). each (read_plain around) xs ≡ Some NoVal) (some_same [] ts h) refl
plains_law around (AndVal v vs) ts s h =
    let p = then_some (one_tree (plain_tree around v)) (plain_trees around vs) ts h in
    let q = one_some (plain_tree around v) p.0 p.2 in
    let whole : q.0 ∷ p.1 ≡ ts = ap (λ (xs : List Tree). xs ++ p.1) q.2 ∙ p.4 in
    subst (λ (xs : List Tree). each (read_plain around) xs ≡ Some (AndVal v vs)) whole
    (rw (plain_law around v q.0 s.0 q.1, plains_law around vs p.1 s.1 p.3) refl)

custom_law : (fs : Fields) (around : Cases) (outer : OuterValue) (tag : ℕ) (t : Tree)
    → custom_selected around fs → structure_of tag (custom_trees around fs) ≡ Some t
    → read_in Custom around outer t ≡ Some (Record fs)
custom_law (AndField (Many vs) NoField) around outer tag t s h =
    let p = structure_some tag (plain_trees around vs) t h in
    subst (λ (u : Tree). read_in Custom around outer u ≡ Some (Record (AndField (Many vs) NoField))) p.2
    (rw (list_of-trees_of p.0, plains_law around vs p.0 s p.1) refl)
custom_law NoField around outer tag t s h = none_some _ h
custom_law (AndField Absent fs) around outer tag t s h = none_some _ h
custom_law (AndField (One v) fs) around outer tag t s h = none_some _ h
custom_law (AndField (Many vs) (AndField f fs)) around outer tag t s h = none_some _ h

absent_law : (fs : Fields) (around : Cases) (rows : RowList) → all_absent fs ≡ true
    → fields_fit fs around rows → absent_fields rows ≡ fs
absent_law NoField around NoRow a f = refl
absent_law NoField around (AndRow name place mark role shape rows) a f = absurd f
absent_law (AndField d fs) around NoRow a f = absurd f
absent_law (AndField Absent fs) around (AndRow name place mark role shape rows) a f =
    ap (AndField Absent) (absent_law fs around rows a f.2)
absent_law (AndField (One v) fs) around (AndRow name place mark role shape rows) a f = cc
absent_law (AndField (Many v) fs) around (AndRow name place mark role shape rows) a f = cc

byte_form_law : (n : ℕ) (fs : Fields) (around : Cases) (rows : RowList) (b : List ℕ)
    → byte_form n fs ≡ Some b → fields_fit fs around rows → bytes_record n rows b ≡ Some (Record fs)
byte_form_law n (AndField (One (Case m (Bytes a))) fs) around NoRow b h f = absurd f
byte_form_law n (AndField (One (Case m (Bytes a))) fs) around
    (AndRow name place mark role shape rows) b h f = go (nat_eq m n && all_absent fs) refl h
  where
    go : (q : Bool) → (nat_eq m n && all_absent fs) ≡ q → cond q (Some a) None ≡ Some b
        → bytes_record n (AndRow name place mark role shape rows) b
        ≡ Some (Record (AndField (One (Case m (Bytes a))) fs))
    go false e k = none_some _ k
    go true e k =
        let same : m ≡ n = eq_same m n (and_left (nat_eq m n) (all_absent fs) e) in
        let rest : absent_fields rows ≡ fs = absent_law fs around rows (and_right (nat_eq m n) (all_absent fs) e) f.2 in
        rw (same, rest, some_same a b k) refl
byte_form_law n _ around rows b h f = none_some _ h

rows_read : (fs : Fields) (around : Cases) (rows : RowList) (outer : OuterValue) (tag : ℕ)
    (t : Tree) → structure_of tag (field_trees fs around rows) ≡ Some t
    → ((ts : List Tree) → field_trees fs around rows ≡ Some ts
    → read_rows rows outer no_outer ts ≡ Some fs) → (ts : List Tree)
    × (structure tag (trees_of ts) ≡ t)
    × (option_map Record (read_rows rows outer no_outer (list_of (trees_of ts)))
    ≡ Some (Record fs))
rows_read fs around rows outer tag t h ih =
    let p = structure_some tag (field_trees fs around rows) t h in
    (p.0, p.2, rw (list_of-trees_of p.0) (ap (option_map Record) (ih p.0 p.1)))

bytes_law : (n : ℕ) (fs : Fields) (around : Cases) (rows : RowList) (outer : OuterValue) (tag : ℕ)
    (t : Tree) → fields_fit fs NoCase rows
    → selected_in (Record fs) around (RowsOrBytes n rows) outer tag
    → tree_in (Record fs) around (RowsOrBytes n rows) tag ≡ Some t
    → (fields_selected fs NoCase rows outer no_outer → (ts : List Tree)
    → field_trees fs NoCase rows ≡ Some ts → read_rows rows outer no_outer ts ≡ Some fs)
    → read_in (RowsOrBytes n rows) around outer t ≡ Some (Record fs)
bytes_law n fs around rows outer tag t f s h ih = go (byte_form n fs) refl s h
  where
    go : (q : Option (List ℕ)) → byte_form n fs ≡ q
        → elim q as (λ _. Type 0)
        [ None ↦ fields_selected fs NoCase rows outer no_outer | Some b ↦ Unit {0} ]
        → bytes_or tag q (structure_of tag (field_trees fs NoCase rows)) ≡ Some t
        → read_in (RowsOrBytes n rows) around outer t ≡ Some (Record fs)
    go None e s h =
        let p = rows_read fs NoCase rows outer tag t h (ih s) in
        subst (λ (u : Tree). read_in (RowsOrBytes n rows) around outer u ≡ Some (Record fs)) p.1 p.2
    go (Some b) e s h =
        let i : scalar tag (byte_string b) ≡ t = some_same _ t h in
        subst (λ (u : Tree). read_in (RowsOrBytes n rows) around outer u ≡ Some (Record fs)) i
        (byte_form_law n fs NoCase rows b e f)

mutual
  pub read_back : (v : Val) (around : Cases) (shape : Shape) (outer : OuterValue) (tag : ℕ)
      (t : Tree) → tags_once shape ≡ true → fits_in v around shape
      → selected_in v around shape outer tag → tree_in v around shape tag ≡ Some t
      → read_in shape around outer t ≡ Some v
  read_back (Number z) around shape outer tag t once f s h = leaf_law shape (Number z) around outer tag t f h
  read_back (Text z) around shape outer tag t once f s h = leaf_law shape (Text z) around outer tag t f h
  read_back (Bytes z) around shape outer tag t once f s h = leaf_law shape (Bytes z) around outer tag t f h
  read_back (Truth z) around shape outer tag t once f s h = leaf_law shape (Truth z) around outer tag t f h
  read_back (Record fs) around (Rows rows) outer tag t once f s h =
      let p = rows_read fs NoCase rows outer tag t h (λ ts k. fields_back fs rows outer no_outer [] ts once f s k tt) in
      subst (λ (u : Tree). read_in (Rows rows) around outer u ≡ Some (Record fs)) p.1 p.2
  read_back (Record fs) around (RowsOrBytes n rows) outer tag t once f s h =
      bytes_law n fs around rows outer tag t f s h (λ s' ts k. fields_back fs rows outer no_outer [] ts once f s' k tt)
  read_back (Record fs) around Custom outer tag t once f s h = custom_law fs around outer tag t s h
  read_back (Record fs) around (Scalar kind) outer tag t once f s h = none_some _ h
  read_back (Record fs) around (OneOf entries) outer tag t once f s h = none_some _ h
  read_back (Record fs) around (Choice rule cases) outer tag t once f s h = none_some _ h
  read_back (Case n v) around (Choice rule cases) outer tag t once f s h =
      let p = choice_parts rule cases n v around tag t h in
      let q = choice_selected rule cases n v around outer tag t p.0 s p.1 p.2 in
      let good : cases_once cases ≡ true = once in
      let fits : fits_in v cases p.0.shape = at_found_fits (case_at cases n) p.0 (λ c. fits_in v cases c.shape) p.1 f in
      read_selected cases cases (key_of rule cases outer t) n p.0 outer t good q.0 p.1
      ∙ ap (option_map (Case n)) (read_back v cases p.0.shape outer (tag_or p.0.tag tag) t
      (case_once cases n p.0 good p.1).1 fits q.1 p.2)
  read_back (Case n v) around (Scalar kind) outer tag t once f s h = none_some _ h
  read_back (Case n v) around (OneOf entries) outer tag t once f s h = none_some _ h
  read_back (Case n v) around (Rows rows) outer tag t once f s h = none_some _ h
  read_back (Case n v) around (RowsOrBytes m rows) outer tag t once f s h = none_some _ h
  read_back (Case n v) around Custom outer tag t once f s h = none_some _ h

  fields_back : (fs : Fields) (rows : RowList) (outer chosen : OuterValue) (before ts : List Tree)
      → rows_once rows ≡ true → fields_fit fs NoCase rows
      → fields_selected fs NoCase rows outer chosen → field_trees fs NoCase rows ≡ Some ts
      → Outside (rows_tags rows) before → read_rows rows outer chosen (before ++ ts) ≡ Some fs
  fields_back NoField NoRow outer chosen before ts once f s h b = refl
  fields_back NoField (AndRow name place mark role shape rows) outer chosen before ts once f s h b = none_some _ h
  fields_back (AndField d fs) NoRow outer chosen before ts once f s h b = none_some _ h
  fields_back (AndField d fs) (AndRow name place mark role shape rows) outer chosen before ts once f s h b =
      let p = then_some (trees_in d NoCase shape (place_tag place)) (field_trees fs NoCase rows) ts h in
      let g = row_apart place shape rows once in
      let own = outer_for role outer chosen in
      let inside : Inside (row_tags place shape own) p.0 = field_inside d NoCase place shape own p.0 g.1 g.2 s.1 p.2 in
      let inside' : Inside (all_tags place shape) p.0 =
      Inside-within (row_tags place shape own) (all_tags place shape) p.0
      (row_within place shape own) inside in
      let later : Inside (rows_tags rows) p.1 =
      fields_inside fs NoCase rows outer (chosen_after role d chosen) p.1 g.3 s.2 p.3 in
      let after : Outside (row_tags place shape own) p.1 =
      Outside-within (row_tags place shape own) (all_tags place shape) p.1
      (row_within place shape own)
      (Outside-apart (all_tags place shape) (rows_tags rows) p.1 g.0 later) in
      let earlier : Outside (row_tags place shape own) before =
      Outside-within (row_tags place shape own) (all_tags place shape) before
      (row_within place shape own)
      (Outside-left (all_tags place shape) (rows_tags rows) before b) in
      let between : with_tags (row_tags place shape own) (before ++ (p.0 ++ p.1)) ≡ p.0 =
      with_tags-between (row_tags place shape own) before p.0 p.1 earlier inside after in
      let own_items : filter (in_place place shape own) (before ++ ts) ≡ p.0 =
      filter_place place shape own (before ++ ts)
      ∙ subst (λ (xs : List Tree). with_tags (row_tags place shape own) (before ++ xs) ≡ p.0)
      p.4 between in
      let here : marked_field mark (read_in shape NoCase own) p.0 ≡ Some d =
      field_back d NoCase shape own (place_tag place) mark p.0 g.2 f.0 s.0 f.1 s.1 p.2 in
      let split : (before ++ p.0) ++ p.1 ≡ before ++ ts =
      append_assoc before p.0 p.1 ∙ ap (λ (xs : List Tree). before ++ xs) p.4 in
      let out : Outside (rows_tags rows) (before ++ p.0) =
      Outside-append (rows_tags rows) before p.0
      (Outside-right (all_tags place shape) (rows_tags rows) before b)
      (Outside-apart' (all_tags place shape) (rows_tags rows) p.0 g.0 inside') in
      let rest : read_rows rows outer (chosen_after role d chosen) ((before ++ p.0) ++ p.1)
      ≡ Some fs = fields_back fs rows outer (chosen_after role d chosen)
      (before ++ p.0) p.1 g.3 f.2 s.2 p.3 out in
      let rest' : read_rows rows outer (chosen_after role d chosen) (before ++ ts) ≡ Some fs =
      subst (λ (xs : List Tree). read_rows rows outer (chosen_after role d chosen) xs ≡ Some fs)
      split rest in
      rw (own_items, here, rest') refl

  field_back : (d : Field) (around : Cases) (shape : Shape) (outer : OuterValue) (tag : ℕ)
      (mark : Mark) (ts : List Tree) → tags_once shape ≡ true → mark_fits mark d
      → mark_selected mark d → field_fits d around shape → field_selected d around shape outer tag
      → trees_in d around shape tag ≡ Some ts
      → marked_field mark (read_in shape around outer) ts ≡ Some d
  field_back Absent around shape outer tag mark ts once mf ms f s h =
      subst (λ (xs : List Tree). marked_field mark (read_in shape around outer) xs ≡ Some Absent)
      (some_same [] ts h) (mark_absent mark (read_in shape around outer) mf)
  field_back (One v) around shape outer tag mark ts once mf ms f s h =
      let q = one_some (tree_in v around shape tag) ts h in
      subst (λ (xs : List Tree). marked_field mark (read_in shape around outer) xs ≡ Some (One v)) q.2
      (mark_one mark (read_in shape around outer) q.0 v mf (read_back v around shape outer tag q.0 once f s q.1))
  field_back (Many vs) around shape outer tag mark ts once mf ms f s h =
      mark_many mark (read_in shape around outer) ts vs mf ms (list_back vs around shape outer tag ts once f s h)

  list_back : (vs : Vals) (around : Cases) (shape : Shape) (outer : OuterValue) (tag : ℕ)
      (ts : List Tree) → tags_once shape ≡ true → vals_fit vs around shape
      → vals_selected vs around shape outer tag → list_trees vs around shape tag ≡ Some ts
      → each (read_in shape around outer) ts ≡ Some vs
  list_back NoVal around shape outer tag ts once f s h =
      subst (λ (xs : List Tree). each (read_in shape around outer) xs ≡ Some NoVal)
      (some_same [] ts h) refl
  list_back (AndVal v vs) around shape outer tag ts once f s h =
      let p = then_some (one_tree (tree_in v around shape tag)) (list_trees vs around shape tag) ts h in
      let q = one_some (tree_in v around shape tag) p.0 p.2 in
      let whole : q.0 ∷ p.1 ≡ ts = ap (λ (xs : List Tree). xs ++ p.1) q.2 ∙ p.4 in
      subst (λ (xs : List Tree). each (read_in shape around outer) xs ≡ Some (AndVal v vs)) whole
      (rw (
        read_back v around shape outer tag q.0 once f.0 s.0 q.1,
        list_back vs around shape outer tag p.1 once f.1 s.1 p.3,
      ) refl)
