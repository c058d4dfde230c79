-- The text that a value is written as, its length, and whether it has a wire form, field by field.
-- By `laws::written` this says of a value what `bytes_of` says of its tree.
use Rattle.std.specs.Prelude.{ℕ, ◌+◌, ◌%◌, ◌^◌, ◌<◌, Bool, true, false, cond, ◌&&◌, List, [], ◌∷◌, ◌++◌, length, map, Option, Some, None, nat_lt, ◌≡◌}
use Rattle.kmip_wire.specs.Tree.{Scalar as Leaf, integer, long_integer, big_integer, enumeration, boolean, text_string, byte_string, date_time, interval}
use Rattle.kmip_wire.specs.declared.kind.Kind.TheVariants.{Enumeration}
use Rattle.std.specs.Option.{option_and_then}
use Rattle.kmip_wire.specs.Kinds.{code_of, kind_of_scalar}
use Rattle.kmip_wire.specs.Head.{pads}
use Rattle.kmip_wire.specs.Bytes.{bytes, head_bytes, item_bytes, value_bytes, has_form}
use Rattle.kmip_shape.specs.Val.{Val, Vals, Field, Fields, Number, Text, Bytes, Truth, Record, Case, Absent, One, Many, NoField, AndField, NoVal, AndVal, vals_of}
use Rattle.kmip_shape.specs.Shape.{Shape, RowList, Cases, Scalar, OneOf, Rows, RowsOrBytes, Choice, Custom, NoRow, AndRow, NoCase, case_at, leaf_of, attribute_value, tag_or, place_tag}
use Rattle.kmip_shape.specs.Trees.{byte_form, has_wire_form, tree_of}

-- the length field of an item
abbrev pub len_of : Leaf → ℕ
len_of (integer z) = 4
len_of (long_integer z) = 8
len_of (big_integer b) = length b
len_of (enumeration n) = 4
len_of (boolean b) = 8
len_of (text_string s) = length s
len_of (byte_string b) = length b
len_of (date_time n) = 8
len_of (interval n) = 4

-- the bytes of a leaf's item, whatever its length, and how many there are
abbrev pub leaf_text : ℕ → Leaf → List ℕ
leaf_text tag leaf = item_bytes tag (code_of (kind_of_scalar leaf)) (value_bytes leaf)

abbrev pub leaf_size : Leaf → ℕ
leaf_size leaf = 8 + len_of leaf + pads (len_of leaf)

-- the head of a structure of so many bytes
unfoldable pub structure_head : ℕ → ℕ → List ℕ
structure_head tag size = head_bytes tag 1 size

-- whether a leaf's item has canonical bytes
abbrev pub leaf_form : Leaf → Type 0
leaf_form (big_integer b) = (length b < 2 ^ 32) × (length b % 8 ≡ 0)
leaf_form leaf = len_of leaf < 2 ^ 32

abbrev pub leaf_has_form : Leaf → Bool
leaf_has_form leaf = has_form leaf && nat_lt (len_of leaf) (2 ^ 32)

-- the leaf that a value without parts is written as
abbrev pub leaf_at : Shape → Val → Option Leaf
leaf_at (Scalar kind) val = leaf_of kind val
leaf_at (OneOf entries) val = leaf_of Enumeration val
leaf_at _ val = None

abbrev pub maybe_form : Option Leaf → Type 0
maybe_form None = ⊥
maybe_form (Some leaf) = leaf_form leaf

abbrev pub maybe_size : Option Leaf → ℕ
maybe_size None = 0
maybe_size (Some leaf) = leaf_size leaf

abbrev pub maybe_text : ℕ → Option Leaf → List ℕ
maybe_text tag None = []
maybe_text tag (Some leaf) = leaf_text tag leaf

abbrev pub maybe_len : Option Leaf → Option ℕ
maybe_len None = None
maybe_len (Some leaf) = cond (leaf_has_form leaf) (Some (leaf_size leaf)) None

-- the leaf that a child of a custom structure is written as
abbrev pub plain_leaf : Cases → Val → Option Leaf
plain_leaf around (Case n val) =
    elim (case_at around n) [ None ↦ None | Some c ↦ leaf_at c.shape val ]
plain_leaf around _ = None

abbrev pub plains_size : Cases → Vals → ℕ
plains_size around NoVal = 0
plains_size around (AndVal val vals) = maybe_size (plain_leaf around val) + plains_size around vals

abbrev pub plains_form : Cases → Vals → Type 0
plains_form around NoVal = Unit {0}
plains_form around (AndVal val vals) = maybe_form (plain_leaf around val) × plains_form around vals

abbrev pub plains_text : Cases → Vals → List ℕ
plains_text around NoVal = []
plains_text around (AndVal val vals) =
    maybe_text attribute_value (plain_leaf around val) ++ plains_text around vals

-- the sum of both lengths, where a length field can hold it
abbrev pub plus_len : Option ℕ → Option ℕ → Option ℕ
plus_len None more = None
plus_len (Some len) None = None
plus_len (Some len) (Some more) = cond (nat_lt (len + more) (2 ^ 32)) (Some (len + more)) None

abbrev pub structure_len : Option ℕ → Option ℕ
structure_len None = None
structure_len (Some len) = Some (8 + len)

-- the sum of the lengths of several rows
abbrev pub sum_len : List (Option ℕ) → Option ℕ
sum_len [] = Some 0
sum_len (len ∷ lens) = plus_len len (sum_len lens)

abbrev pub plains_len : Cases → Vals → Option ℕ
plains_len around NoVal = Some 0
plains_len around (AndVal val vals) =
    plus_len (maybe_len (plain_leaf around val)) (plains_len around vals)

abbrev pub many_of : Fields → Vals
many_of (AndField (Many vals) fields) = vals
many_of _ = NoVal

abbrev pub custom_form : Cases → Fields → Type 0
custom_form around (AndField (Many vals) NoField) =
    plains_form around vals × (plains_size around vals < 2 ^ 32)
custom_form around _ = ⊥

abbrev pub custom_len : Cases → Fields → Option ℕ
custom_len around (AndField (Many vals) NoField) = structure_len (plains_len around vals)
custom_len around _ = None

-- how many bytes a value is written in
abbrev mutual
  pub size_in : Val → Cases → Shape → ℕ
  size_in (Number z) around shape = maybe_size (leaf_at shape (Number z))
  size_in (Text s) around shape = maybe_size (leaf_at shape (Text s))
  size_in (Bytes b) around shape = maybe_size (leaf_at shape (Bytes b))
  size_in (Truth b) around shape = maybe_size (leaf_at shape (Truth b))
  size_in (Record fields) around shape = elim shape [
    | Rows rows ↦ 8 + fields_size fields rows
    | RowsOrBytes n rows ↦
        elim (byte_form n fields) [
          | None ↦ 8 + fields_size fields rows
          | Some b ↦
              leaf_size (byte_string b)
        ]
    | Custom ↦ 8 + plains_size around (many_of fields)
    | _ ↦ 0
  ]
  size_in (Case n val) around shape = elim shape [
    | Choice rule cases ↦ elim (case_at cases n) [ None ↦ 0 | Some c ↦ size_in val cases c.shape ]
    | _ ↦ 0
  ]

  pub fields_size : Fields → RowList → ℕ
  fields_size NoField rows = 0
  fields_size (AndField field fields) NoRow = 0
  fields_size (AndField field fields) (AndRow name place mark role shape rows) =
      field_size field shape + fields_size fields rows

  pub field_size : Field → Shape → ℕ
  field_size Absent shape = 0
  field_size (One val) shape = size_in val NoCase shape
  field_size (Many vals) shape = list_size vals shape

  pub list_size : Vals → Shape → ℕ
  list_size NoVal shape = 0
  list_size (AndVal val vals) shape = size_in val NoCase shape + list_size vals shape

-- whether a value has a wire form
abbrev mutual
  pub form_in : Val → Cases → Shape → Type 0
  form_in (Number z) around shape = maybe_form (leaf_at shape (Number z))
  form_in (Text s) around shape = maybe_form (leaf_at shape (Text s))
  form_in (Bytes b) around shape = maybe_form (leaf_at shape (Bytes b))
  form_in (Truth b) around shape = maybe_form (leaf_at shape (Truth b))
  form_in (Record fields) around shape = elim shape [
    | Rows rows ↦ fields_form fields rows × (fields_size fields rows < 2 ^ 32)
    | RowsOrBytes n rows ↦
        elim (byte_form n fields) [
          | None ↦
              fields_form fields rows × (fields_size fields rows < 2 ^ 32)
          | Some b ↦
              leaf_form (byte_string b)
        ]
    | Custom ↦ custom_form around fields
    | _ ↦ ⊥
  ]
  form_in (Case n val) around shape = elim shape [
    | Choice rule cases ↦ elim (case_at cases n) [
      | None ↦ ⊥
      | Some c ↦ elim (has_wire_form c.selector) [ true ↦ form_in val cases c.shape | false ↦ ⊥ ]
    ]
    | _ ↦ ⊥
  ]

  pub fields_form : Fields → RowList → Type 0
  fields_form NoField NoRow = Unit {0}
  fields_form NoField (AndRow name place mark role shape rows) = ⊥
  fields_form (AndField field fields) NoRow = ⊥
  fields_form (AndField field fields) (AndRow name place mark role shape rows) =
      field_form field shape × fields_form fields rows

  pub field_form : Field → Shape → Type 0
  field_form Absent shape = Unit {0}
  field_form (One val) shape = form_in val NoCase shape
  field_form (Many vals) shape = list_form vals shape

  pub list_form : Vals → Shape → Type 0
  list_form NoVal shape = Unit {0}
  list_form (AndVal val vals) shape = form_in val NoCase shape × list_form vals shape

-- the bytes that a value is written as, where it has a form
abbrev mutual
  pub text_in : Val → Cases → Shape → ℕ → List ℕ
  text_in (Number z) around shape tag = maybe_text tag (leaf_at shape (Number z))
  text_in (Text s) around shape tag = maybe_text tag (leaf_at shape (Text s))
  text_in (Bytes b) around shape tag = maybe_text tag (leaf_at shape (Bytes b))
  text_in (Truth b) around shape tag = maybe_text tag (leaf_at shape (Truth b))
  text_in (Record fields) around shape tag = elim shape [
    | Rows rows ↦ structure_head tag (fields_size fields rows) ++ fields_text fields rows
    | RowsOrBytes n rows ↦
        elim (byte_form n fields) [
          | None ↦
              structure_head tag (fields_size fields rows) ++ fields_text fields rows
          | Some b ↦
              leaf_text tag (byte_string b)
        ]
    | Custom ↦ structure_head tag (plains_size around (many_of fields)) ++ plains_text around
        (many_of fields)
    | _ ↦ []
  ]
  text_in (Case n val) around shape tag = elim shape [
    | Choice rule cases ↦
        elim (case_at cases n) [ None ↦ [] | Some c ↦ text_in val cases c.shape (tag_or c.tag tag) ]
    | _ ↦ []
  ]

  pub fields_text : Fields → RowList → List ℕ
  fields_text NoField rows = []
  fields_text (AndField field fields) NoRow = []
  fields_text (AndField field fields) (AndRow name place mark role shape rows) =
      field_text field shape (place_tag place) ++ fields_text fields rows

  pub field_text : Field → Shape → ℕ → List ℕ
  field_text Absent shape tag = []
  field_text (One val) shape tag = text_in val NoCase shape tag
  field_text (Many vals) shape tag = list_text vals shape tag

  pub list_text : Vals → Shape → ℕ → List ℕ
  list_text NoVal shape tag = []
  list_text (AndVal val vals) shape tag = text_in val NoCase shape tag ++ list_text vals shape tag

-- the number of those bytes, and none where a value has no wire form
abbrev mutual
  pub len_in : Val → Cases → Shape → Option ℕ
  len_in (Number z) around shape = maybe_len (leaf_at shape (Number z))
  len_in (Text s) around shape = maybe_len (leaf_at shape (Text s))
  len_in (Bytes b) around shape = maybe_len (leaf_at shape (Bytes b))
  len_in (Truth b) around shape = maybe_len (leaf_at shape (Truth b))
  len_in (Record fields) around shape = elim shape [
    | Rows rows ↦ structure_len (fields_len fields rows)
    | RowsOrBytes n rows ↦
        elim (byte_form n fields) [
          | None ↦ structure_len (fields_len fields rows)
          | Some b ↦
              maybe_len (Some (byte_string b))
        ]
    | Custom ↦ custom_len around fields
    | _ ↦ None
  ]
  len_in (Case n val) around shape = elim shape [
    | Choice rule cases ↦ elim (case_at cases n) [
      | None ↦ None
      | Some c ↦ cond (has_wire_form c.selector) (len_in val cases c.shape) None
    ]
    | _ ↦ None
  ]

  pub fields_len : Fields → RowList → Option ℕ
  fields_len NoField NoRow = Some 0
  fields_len NoField (AndRow name place mark role shape rows) = None
  fields_len (AndField field fields) NoRow = None
  fields_len (AndField field fields) (AndRow name place mark role shape rows) =
      plus_len (field_len field shape) (fields_len fields rows)

  pub field_len : Field → Shape → Option ℕ
  field_len Absent shape = Some 0
  field_len (One val) shape = len_in val NoCase shape
  field_len (Many vals) shape = list_len vals shape

  pub list_len : Vals → Shape → Option ℕ
  list_len NoVal shape = Some 0
  list_len (AndVal val vals) shape = plus_len (len_in val NoCase shape) (list_len vals shape)

-- the canonical bytes of the tree of a value, where there are any
abbrev pub bytes_of : Shape → ℕ → Val → Option (List ℕ)
bytes_of shape tag val = option_and_then bytes (tree_of shape tag val)

-- The same of a value that is no member of a custom structure: what contracts cite.

abbrev pub HasForm : Shape → Val → Type 0
HasForm shape val = form_in val NoCase shape

abbrev pub size_of : Shape → Val → ℕ
size_of shape val = size_in val NoCase shape

abbrev pub text_of : Shape → ℕ → Val → List ℕ
text_of shape tag val = text_in val NoCase shape tag

abbrev pub wire_len_of : Shape → Val → Option ℕ
wire_len_of shape val = len_in val NoCase shape

-- the fields of an option, of a list, and of an optional list
abbrev pub optional : {T : Type 0} → (T → Val) → Option T → Field
optional val None = Absent
optional val (Some x) = One (val x)

abbrev pub vals : {T : Type 0} → (T → Val) → List T → Vals
vals val xs = vals_of (map val xs)

abbrev pub optional_list : {T : Type 0} → (T → Val) → Option (List T) → Field
optional_list val None = Absent
optional_list val (Some xs) = Many (vals val xs)
