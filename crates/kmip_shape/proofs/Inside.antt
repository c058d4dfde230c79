-- The items of a selected record stand under the tags of its rows.
use Rattle.std.proofs.Common.{◌≡◌, true, ◌&&◌, List, [], ◌++◌, Some, subst}
use Rattle.kmip_wire.specs.Tree.{Tree}
use Rattle.kmip_shape.specs.Val.{Vals, Field, Fields, Absent, One, Many, NoField, AndField, NoVal, AndVal}
use Rattle.kmip_shape.specs.Shape.{Shape, RowList, Cases, Required, Plain, Place, place_tag, outer_for, chosen_after, NoRow, AndRow, OuterValue}
use Rattle.kmip_shape.specs.Trees.{one_tree, tree_in, field_trees, trees_in, list_trees}
use Rattle.kmip_shape.specs.Fits.{fields_selected, field_selected, vals_selected, all_tags, rows_tags, apart, place_stands, tags_once, rows_once}
use Rattle.kmip_shape.proofs.Lists.{and_left, and_right, Inside, Inside-append, Inside-within, row_tags, among-left, among-right}
use Rattle.kmip_shape.proofs.Parts.{none_some, some_same, one_some, then_some}
use Rattle.kmip_shape.proofs.Cases.{tag_item, row_within}

pub list_inside : (vs : Vals) (around : Cases) (place : Place) (shape : Shape) (outer : OuterValue)
    (ts : List Tree) → place_stands place shape ≡ true → tags_once shape ≡ true
    → vals_selected vs around shape outer (place_tag place)
    → list_trees vs around shape (place_tag place) ≡ Some ts
    → Inside (row_tags place shape outer) ts
list_inside NoVal around place shape outer ts good once s h =
    subst (λ (xs : List Tree). Inside (row_tags place shape outer) xs) (some_same [] ts h) tt
list_inside (AndVal v vs) around place shape outer ts good once s h =
    let p = then_some (one_tree (tree_in v around shape (place_tag place)))
    (list_trees vs around shape (place_tag place)) ts h in
    let q = one_some (tree_in v around shape (place_tag place)) p.0 p.2 in
    let first : Inside (row_tags place shape outer) p.0 =
    subst (λ (xs : List Tree). Inside (row_tags place shape outer) xs) q.2
    (tag_item place shape v around outer q.0 good once s.0 q.1, tt) in
    subst (λ (xs : List Tree). Inside (row_tags place shape outer) xs) p.4
    (Inside-append (row_tags place shape outer) p.0 p.1 first
    (list_inside vs around place shape outer p.1 good once s.1 p.3))

pub field_inside : (f : Field) (around : Cases) (place : Place) (shape : Shape) (outer : OuterValue)
    (ts : List Tree) → place_stands place shape ≡ true → tags_once shape ≡ true
    → field_selected f around shape outer (place_tag place)
    → trees_in f around shape (place_tag place) ≡ Some ts → Inside (row_tags place shape outer) ts
field_inside Absent around place shape outer ts good once s h =
    subst (λ (xs : List Tree). Inside (row_tags place shape outer) xs) (some_same [] ts h) tt
field_inside (One v) around place shape outer ts good once s h =
    let q = one_some (tree_in v around shape (place_tag place)) ts h in
    subst (λ (xs : List Tree). Inside (row_tags place shape outer) xs) q.2
    (tag_item place shape v around outer q.0 good once s q.1, tt)
field_inside (Many vs) around place shape outer ts good once s h =
    list_inside vs around place shape outer ts good once s h

-- the four parts of a row that has no tag twice
pub row_apart : (place : Place) (shape : Shape) (rows : RowList)
    → rows_once (AndRow [] place Required Plain shape rows) ≡ true
    → (apart (all_tags place shape) (rows_tags rows) ≡ true) × (place_stands place shape ≡ true)
    × (tags_once shape ≡ true) × (rows_once rows ≡ true)
row_apart place shape rows once =
    let a = apart (all_tags place shape) (rows_tags rows) in
    let b = place_stands place shape in
    let c = tags_once shape in
    let d = rows_once rows in
    let r1 : (b && (c && d)) ≡ true = and_right a (b && (c && d)) once in
    let r2 : (c && d) ≡ true = and_right b (c && d) r1 in
    (and_left a (b && (c && d)) once, and_left b (c && d) r1, and_left c d r2, and_right c d r2)

pub fields_inside : (fs : Fields) (around : Cases) (rows : RowList) (outer chosen : OuterValue)
    (ts : List Tree) → rows_once rows ≡ true → fields_selected fs around rows outer chosen
    → field_trees fs around rows ≡ Some ts → Inside (rows_tags rows) ts
fields_inside NoField around NoRow outer chosen ts once s h =
    subst (λ (xs : List Tree). Inside [] xs) (some_same [] ts h) tt
fields_inside NoField around (AndRow name place mark role shape rows) outer chosen ts once s h = none_some _ h
fields_inside (AndField f fs) around NoRow outer chosen ts once s h = none_some _ h
fields_inside (AndField f fs) around (AndRow name place mark role shape rows) outer chosen ts once s h =
    let p = then_some (trees_in f around shape (place_tag place)) (field_trees fs around rows) ts h in
    let o = row_apart place shape rows once in
    let own = outer_for role outer chosen in
    let first : Inside (row_tags place shape own) p.0 = field_inside f around place shape own p.0 o.1 o.2 s.1 p.2 in
    let first' : Inside (all_tags place shape ++ rows_tags rows) p.0 =
    Inside-within (row_tags place shape own) (all_tags place shape ++ rows_tags rows) p.0
    (λ n k. among-left n (all_tags place shape) (rows_tags rows)
    (row_within place shape own n k)) first in
    let rest : Inside (all_tags place shape ++ rows_tags rows) p.1 =
    Inside-within (rows_tags rows) (all_tags place shape ++ rows_tags rows) p.1
    (λ n k. among-right n (all_tags place shape) (rows_tags rows) k)
    (fields_inside fs around rows outer (chosen_after role f chosen) p.1 o.3 s.2 p.3) in
    subst (λ (xs : List Tree). Inside (all_tags place shape ++ rows_tags rows) xs) p.4
    (Inside-append (all_tags place shape ++ rows_tags rows) p.0 p.1 first' rest)
