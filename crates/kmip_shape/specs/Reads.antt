use Rattle.std.specs.Prelude.{ℕ, pos, List, [], ◌∷◌, Option, Some, None, filter, if◌then◌else◌, ◌==◌}
use Rattle.std.specs.Option.{option_map, option_and_then}
use Rattle.kmip_wire.specs.declared.kind.Kind.{Kind}
use Rattle.kmip_wire.specs.Tree.{Tree}
use Rattle.kmip_wire.specs.Kinds.{kind_of_scalar, code_of}
use Rattle.kmip_wire.specs.Parts.{tag_of, scalar_in, children_in, int_in, long_in, big_in, enumeration_in, flag_in, text_in, bytes_in, date_in, interval_in}
use Rattle.kmip_wire.specs.declared.kind.Kind.TheVariants.{Structure, Integer, LongInteger, BigInteger, Enumeration, Boolean, TextString, ByteString, DateTime, Interval}
use Rattle.kmip_shape.specs.Val.{Val, Vals, Field, Fields, Number, Text, Bytes, Truth, Record, Case, Absent, One, Many, NoField, AndField, NoVal, AndVal}
use Rattle.kmip_shape.specs.Shape.{Shape, RowList, Cases, Mark, Required, Optional, AnyNumber, AtLeastOne, OptionalList, Scalar, OneOf, Rows, RowsOrBytes, Choice, Custom, NoRow, AndRow, NoCase, AndCase, OuterValue, no_outer, Key, TypeKey, key_of, matches, selected_case, in_place, outer_for, chosen_after, in_table, val_of, Entry}

-- the values of several items, in order
abbrev pub each : (Tree → Option Val) → List Tree → Option Vals
each read [] = Some NoVal
each read (tree ∷ trees) =
    option_and_then (λ val. option_map (AndVal val) (each read trees)) (read tree)

-- the field that the items of a row are read as, where their number is one that the mark allows
abbrev pub marked_field : Mark → (Tree → Option Val) → List Tree → Option Field
marked_field Required read [] = None
marked_field Required read (tree ∷ []) = option_map One (read tree)
marked_field Required read (tree ∷ next ∷ trees) = None
marked_field Optional read [] = Some Absent
marked_field Optional read (tree ∷ []) = option_map One (read tree)
marked_field Optional read (tree ∷ next ∷ trees) = None
marked_field AnyNumber read trees = option_map Many (each read trees)
marked_field AtLeastOne read [] = None
marked_field AtLeastOne read (tree ∷ trees) = option_map Many (each read (tree ∷ trees))
marked_field OptionalList read [] = Some Absent
marked_field OptionalList read (tree ∷ trees) = option_map Many (each read (tree ∷ trees))

-- a field before the fields of the rows after it, where both are read
abbrev pub with_field : Option Field → (Field → Option Fields) → Option Fields
with_field None rest = None
with_field (Some field) rest = option_map (AndField field) (rest field)

-- the value of an item of the kind
abbrev pub read_kind : Kind → Tree → Option Val
read_kind Structure tree = None
read_kind Integer tree = option_map Number (int_in tree)
read_kind LongInteger tree = option_map Number (long_in tree)
read_kind BigInteger tree = option_map Bytes (big_in tree)
read_kind Enumeration tree = option_map (λ n. Number (pos n)) (enumeration_in tree)
read_kind Boolean tree = option_map Truth (flag_in tree)
read_kind TextString tree = option_map Text (text_in tree)
read_kind ByteString tree = option_map Bytes (bytes_in tree)
read_kind DateTime tree = option_map (λ n. Number (pos n)) (date_in tree)
read_kind Interval tree = option_map (λ n. Number (pos n)) (interval_in tree)

abbrev pub read_entry : List Entry → Tree → Option Val
read_entry entries tree =
    option_and_then (λ n. if in_table n entries then Some (Number (pos n)) else None)
    (enumeration_in tree)

-- a child of a custom structure is read by its type alone
abbrev pub read_plain : Cases → Tree → Option Val
read_plain around tree =
    option_and_then (λ leaf. option_map (λ n. Case n (val_of leaf))
    (selected_case (TypeKey (code_of (kind_of_scalar leaf))) around)) (scalar_in tree)

abbrev pub absent_fields : RowList → Fields
absent_fields NoRow = NoField
absent_fields (AndRow name place mark role shape rows) = AndField Absent (absent_fields rows)

-- the record of a byte form
abbrev pub bytes_record : ℕ → RowList → List ℕ → Option Val
bytes_record n NoRow b = None
bytes_record n (AndRow name place mark role shape rows) b =
    Some (Record (AndField (One (Case n (Bytes b))) (absent_fields rows)))

abbrev mutual
  pub read_in : Shape → Cases → OuterValue → Tree → Option Val
  read_in (Scalar kind) around outer tree = read_kind kind tree
  read_in (OneOf entries) around outer tree = read_entry entries tree
  read_in (Rows rows) around outer tree =
      option_and_then (λ trees. option_map Record (read_rows rows outer no_outer trees))
      (children_in tree)
  read_in (RowsOrBytes n rows) around outer tree = elim (bytes_in tree) [
    | Some b ↦ bytes_record n rows b
    | None ↦ option_and_then (λ trees. option_map Record (read_rows rows outer no_outer trees))
        (children_in tree)
  ]
  read_in (Choice rule cases) around outer tree =
      read_case cases cases (key_of rule cases outer tree) outer tree
  read_in Custom around outer tree =
      option_and_then (λ trees. option_map (λ vals. Record (AndField (Many vals) NoField))
      (each (read_plain around) trees)) (children_in tree)

  -- the fields of rows: `outer` is the chooser around the record, `chosen` that of the record itself
  -- as far as its rows were read
  pub read_rows : RowList → OuterValue → OuterValue → List Tree → Option Fields
  read_rows NoRow outer chosen trees = Some NoField
  read_rows (AndRow name place mark role shape rows) outer chosen trees =
      with_field (marked_field mark (read_in shape NoCase (outer_for role outer chosen))
      (filter (in_place place shape (outer_for role outer chosen)) trees))
      (λ field. read_rows rows outer (chosen_after role field chosen) trees)

  -- an item read by the first case that the key selects
  pub read_case : Cases → Cases → Key → OuterValue → Tree → Option Val
  read_case NoCase around key outer tree = None
  read_case (AndCase n name selector fixed shape cases) around key outer tree =
      if matches key selector then option_map (Case n) (read_in shape around outer tree)
      else read_case cases around key outer tree

-- the value that a tree is read as, and none where it is no encoding of a value of the shape
abbrev pub read_of : Shape → OuterValue → Tree → Option Val
read_of shape outer tree = read_in shape NoCase outer tree

-- the value of an outermost structure, which has this tag
abbrev pub root_read : Shape → ℕ → Tree → Option Val
root_read shape tag tree = if tag_of tree == tag then read_of shape no_outer tree else None
