use Rattle.std.specs.Prelude.{ℕ, ◌^◌, ◌<◌, ◌≤ℤ◌, pos, negsuc, Bool, true, false, ◌&&◌, not, List, [], ◌∷◌, ◌++◌, Some, None, nat_lt, IfSome, IsUtf8, ◌≡◌}
use Rattle.kmip_wire.specs.declared.kind.Kind.{Kind}
use Rattle.kmip_wire.specs.declared.kind.Kind.TheVariants.{Integer, LongInteger, BigInteger, Enumeration, Boolean, TextString, ByteString, DateTime, Interval}
use Rattle.kmip_shape.specs.Val.{Val, Vals, Field, Fields, Number, Text, Bytes, Truth, Record, Case, Absent, One, Many, NoField, AndField, NoVal, AndVal}
use Rattle.kmip_shape.specs.Shape.{Shape, RowList, Cases, Mark, Required, Optional, AnyNumber, AtLeastOne, OptionalList, Plain, Chooser, Chosen, Place, Under, ByCase, place_tag, outer_for, chosen_after, Scalar, OneOf, Rows, RowsOrBytes, Choice, Custom, NoRow, AndRow, NoCase, AndCase, OfNumber, OfName, OfTag, OuterValue, no_outer, key_of, type_key, selected_case, case_at, case_tags, among, in_table, tag_or, attribute_value}
use Rattle.kmip_shape.specs.Trees.{tree_in, plain_tree, byte_form}

abbrev pub AreBytes : List ℕ → Type 0
AreBytes [] = Unit {0}
AreBytes (b ∷ bs) = (b < 256) × AreBytes bs

-- a value of the kind, with its number in range, its text in UTF-8 and its bytes below 256
abbrev pub kind_fits : Kind → Val → Type 0
kind_fits Integer (Number z) = (negsuc 0x7fff_ffff ≤ℤ z) × (z ≤ℤ pos 0x7fff_ffff)
kind_fits LongInteger (Number z) =
    (negsuc 0x7fff_ffff_ffff_ffff ≤ℤ z) × (z ≤ℤ pos 0x7fff_ffff_ffff_ffff)
kind_fits BigInteger (Bytes b) = AreBytes b
kind_fits Enumeration (Number (pos n)) = n < 2 ^ 32
kind_fits Boolean (Truth b) = Unit {0}
kind_fits TextString (Text s) = IsUtf8 s
kind_fits ByteString (Bytes b) = AreBytes b
kind_fits DateTime (Number (pos n)) = n < 2 ^ 64
kind_fits Interval (Number (pos n)) = n < 2 ^ 32
kind_fits _ _ = ⊥

abbrev pub leaf_fits : Shape → Val → Type 0
leaf_fits (Scalar kind) val = kind_fits kind val
leaf_fits (OneOf entries) (Number (pos n)) = in_table n entries ≡ true
leaf_fits _ _ = ⊥

abbrev pub mark_fits : Mark → Field → Type 0
mark_fits Required (One val) = Unit {0}
mark_fits Optional Absent = Unit {0}
mark_fits Optional (One val) = Unit {0}
mark_fits AnyNumber (Many vals) = Unit {0}
mark_fits AtLeastOne (Many vals) = Unit {0}
mark_fits OptionalList Absent = Unit {0}
mark_fits OptionalList (Many vals) = Unit {0}
mark_fits _ _ = ⊥

abbrev mutual
  pub fits_in : Val → Cases → Shape → Type 0
  fits_in (Number z) around shape = leaf_fits shape (Number z)
  fits_in (Text s) around shape = leaf_fits shape (Text s)
  fits_in (Bytes b) around shape = leaf_fits shape (Bytes b)
  fits_in (Truth b) around shape = leaf_fits shape (Truth b)
  fits_in (Record fields) around shape = elim shape [
    | Rows rows ↦ fields_fit fields NoCase rows
    | RowsOrBytes n rows ↦ fields_fit fields NoCase rows
    | Custom ↦ fields_fit fields NoCase
        (AndRow [] (Under attribute_value) AnyNumber Plain (Choice OfName around) NoRow)
    | _ ↦ ⊥
  ]
  fits_in (Case n val) around shape = elim shape [
    | Choice rule cases ↦ elim (case_at cases n) [ None ↦ ⊥ | Some c ↦ fits_in val cases c.shape ]
    | _ ↦ ⊥
  ]

  pub fields_fit : Fields → Cases → RowList → Type 0
  fields_fit NoField around NoRow = Unit {0}
  fields_fit NoField around (AndRow name place mark role shape rows) = ⊥
  fields_fit (AndField field fields) around NoRow = ⊥
  fields_fit (AndField field fields) around (AndRow name place mark role shape rows) =
      mark_fits mark field × field_fits field around shape × fields_fit fields around rows

  pub field_fits : Field → Cases → Shape → Type 0
  field_fits Absent around shape = Unit {0}
  field_fits (One val) around shape = fits_in val around shape
  field_fits (Many vals) around shape = vals_fit vals around shape

  pub vals_fit : Vals → Cases → Shape → Type 0
  vals_fit NoVal around shape = Unit {0}
  vals_fit (AndVal val vals) around shape = fits_in val around shape × vals_fit vals around shape

-- a value without parts fits the shape, with its numbers in range
abbrev pub Fits : Shape → Val → Type 0
Fits shape val = fits_in val NoCase shape

abbrev pub mark_selected : Mark → Field → Type 0
mark_selected AtLeastOne (Many NoVal) = ⊥
mark_selected OptionalList (Many NoVal) = ⊥
mark_selected _ _ = Unit {0}

-- a child of a custom structure is of the case that its type selects
abbrev pub plain_selected : Cases → Val → Type 0
plain_selected around (Case n val) =
    IfSome (plain_tree around (Case n val)) (λ t. selected_case (type_key t) around ≡ Some n)
plain_selected around _ = Unit {0}

abbrev pub all_plain : Cases → Vals → Type 0
all_plain around NoVal = Unit {0}
all_plain around (AndVal val vals) = plain_selected around val × all_plain around vals

abbrev pub custom_selected : Cases → Fields → Type 0
custom_selected around (AndField (Many vals) fields) = all_plain around vals
custom_selected around _ = Unit {0}

abbrev mutual
  pub selected_in : Val → Cases → Shape → OuterValue → ℕ → Type 0
  selected_in (Number z) around shape outer tag = Unit {0}
  selected_in (Text s) around shape outer tag = Unit {0}
  selected_in (Bytes b) around shape outer tag = Unit {0}
  selected_in (Truth b) around shape outer tag = Unit {0}
  selected_in (Record fields) around shape outer tag = elim shape [
    | Rows rows ↦ fields_selected fields NoCase rows outer no_outer
    | RowsOrBytes n rows ↦
        elim (byte_form n fields) [
          | None ↦
              fields_selected fields NoCase rows outer no_outer
          | Some b ↦ Unit {0}
        ]
    | Custom ↦ custom_selected around fields
    | _ ↦ Unit {0}
  ]
  selected_in (Case n val) around shape outer tag = elim shape [
    | Choice rule cases ↦ elim (case_at cases n) [
      | None ↦ Unit {0}
      | Some c ↦ IfSome (tree_in val cases c.shape (tag_or c.tag tag))
          (λ t. selected_case (key_of rule cases outer t) cases ≡ Some n)
          × selected_in val cases c.shape outer (tag_or c.tag tag)
    ]
    | _ ↦ Unit {0}
  ]

  pub fields_selected : Fields → Cases → RowList → OuterValue → OuterValue → Type 0
  fields_selected NoField around rows outer chosen = Unit {0}
  fields_selected (AndField field fields) around NoRow outer chosen = Unit {0}
  fields_selected (AndField field fields) around (AndRow name place mark role shape rows) outer
      chosen =
      mark_selected mark field ×
      field_selected field around shape (outer_for role outer chosen) (place_tag place)
      × fields_selected fields around rows outer (chosen_after role field chosen)

  pub field_selected : Field → Cases → Shape → OuterValue → ℕ → Type 0
  field_selected Absent around shape outer tag = Unit {0}
  field_selected (One val) around shape outer tag = selected_in val around shape outer tag
  field_selected (Many vals) around shape outer tag = vals_selected vals around shape outer tag

  pub vals_selected : Vals → Cases → Shape → OuterValue → ℕ → Type 0
  vals_selected NoVal around shape outer tag = Unit {0}
  vals_selected (AndVal val vals) around shape outer tag =
      selected_in val around shape outer tag × vals_selected vals around shape outer tag

-- No tag stands twice in a record.

-- the tags under which the items of a row may stand, whatever is around them
abbrev pub all_tags : Place → Shape → List ℕ
all_tags (Under tag) shape = tag ∷ []
all_tags ByCase (Choice rule cases) = case_tags cases
all_tags ByCase _ = []

abbrev pub rows_tags : RowList → List ℕ
rows_tags NoRow = []
rows_tags (AndRow name place mark role shape rows) = all_tags place shape ++ rows_tags rows

abbrev pub apart : List ℕ → List ℕ → Bool
apart [] ms = true
apart (n ∷ ns) ms = not (among n ms) && apart ns ms

abbrev pub numbers : Cases → List ℕ
numbers NoCase = []
numbers (AndCase n name selector fixed shape cases) = n ∷ numbers cases

abbrev pub fixes_none : Cases → Bool
fixes_none NoCase = true
fixes_none (AndCase n name selector None shape cases) = fixes_none cases
fixes_none (AndCase n name selector (Some t) shape cases) = false

-- a row under a tag is no choice whose cases have tags of their own, and a row by its cases is a
-- choice by number or by tag
abbrev pub place_stands : Place → Shape → Bool
place_stands (Under tag) (Choice rule cases) = fixes_none cases
place_stands (Under tag) _ = true
place_stands ByCase (Choice OfNumber cases) = true
place_stands ByCase (Choice OfTag cases) = true
place_stands ByCase _ = false

abbrev pub is_choice : Shape → Bool
is_choice (Choice rule cases) = true
is_choice _ = false

abbrev mutual
  pub tags_once : Shape → Bool
  tags_once (Scalar kind) = true
  tags_once (OneOf entries) = true
  tags_once (Rows rows) = rows_once rows
  tags_once (RowsOrBytes n rows) = rows_once rows
  tags_once (Choice rule cases) = cases_once cases
  tags_once Custom = true

  pub rows_once : RowList → Bool
  rows_once NoRow = true
  rows_once (AndRow name place mark role shape rows) =
      apart (all_tags place shape) (rows_tags rows) &&
      (place_stands place shape && (tags_once shape && rows_once rows))

  pub cases_once : Cases → Bool
  cases_once NoCase = true
  cases_once (AndCase n name selector fixed shape cases) =
      not (among n (numbers cases)) &&
      (not (is_choice shape) && (tags_once shape && cases_once cases))

-- Choosers stand where their values can be used.

abbrev pub gives_outer : Shape → Bool
gives_outer (OneOf entries) = true
gives_outer (Scalar TextString) = true
gives_outer _ = false

abbrev pub is_single : Mark → Bool
is_single Required = true
is_single Optional = true
is_single _ = false

-- at most one chooser, which is a single field of an enumeration or a text, before the chosen rows
abbrev pub rows_choose : Bool → RowList → Bool
rows_choose seen NoRow = true
rows_choose seen (AndRow name place mark Plain shape rows) = rows_choose seen rows
rows_choose seen (AndRow name place mark Chooser shape rows) =
    not seen && (gives_outer shape && (is_single mark && rows_choose true rows))
rows_choose seen (AndRow name place mark Chosen shape rows) = seen && rows_choose seen rows

abbrev pub choosers_stand : Shape → Bool
choosers_stand (Rows rows) = rows_choose false rows
choosers_stand (RowsOrBytes n rows) = rows_choose false rows
choosers_stand _ = true

-- the tags of the rows are below 2^24
abbrev pub are_tags : RowList → Bool
are_tags NoRow = true
are_tags (AndRow name place mark role shape rows) =
    nat_lt (place_tag place) (2 ^ 24) && are_tags rows
