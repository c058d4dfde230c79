-- A value with a form has a length, which is its size.
use Rattle.std.proofs.Common.{◌≡◌, ℕ, ◌+◌, ◌^◌, ◌<◌, ◌%◌, Bool, true, false, cond, length, List, Option, Some, None, refl, ap, arith, lt-ltb, eq-eqb}
use Rattle.kmip_wire.specs.Tree.{Scalar as Leaf, integer, long_integer, big_integer, enumeration, boolean, text_string, byte_string, date_time, interval}
use Rattle.kmip_shape.specs.Writes.{leaf_form, leaf_has_form, leaf_size}
use Rattle.kmip_shape.specs.Val.{Val, Vals, Field, Fields, Number, Text, Bytes, Truth, Record, Case, Absent, One, Many, NoField, AndField, NoVal, AndVal}
use Rattle.kmip_shape.specs.Shape.{Shape, RowList, Cases, Scalar, OneOf, Rows, RowsOrBytes, Choice, Custom, NoRow, AndRow, NoCase, Found, case_at}
use Rattle.kmip_shape.specs.Trees.{byte_form, has_wire_form}
use Rattle.kmip_shape.specs.Writes.{leaf_at, maybe_form, maybe_len, maybe_size, plain_leaf, plains_form, plains_len, plains_size, many_of, custom_form, custom_len, plus_len, structure_len, form_in, len_in, size_in, fields_form, fields_len, fields_size, field_form, field_len, field_size, list_form, list_len, list_size}

pub leaf_law : (l : Leaf) → leaf_form l → leaf_has_form l ≡ true
leaf_law (integer z) h = refl
leaf_law (long_integer z) h = refl
leaf_law (big_integer b) h = rw (eq-eqb (length b % 8) 0 h.1) (lt-ltb (length b) (2 ^ 32) h.0)
leaf_law (enumeration z) h = refl
leaf_law (boolean z) h = refl
leaf_law (text_string s) h = lt-ltb (length s) (2 ^ 32) h
leaf_law (byte_string s) h = lt-ltb (length s) (2 ^ 32) h
leaf_law (date_time z) h = refl
leaf_law (interval z) h = refl

maybe_law : (o : Option Leaf) → maybe_form o → maybe_len o ≡ Some (maybe_size o)
maybe_law None h = absurd h
maybe_law (Some l) h = rw (leaf_law l h) refl

plus_law : (a b : Option ℕ) (m n : ℕ) → a ≡ Some m → b ≡ Some n → m + n < 2 ^ 32 → plus_len a b ≡ Some (m + n)
plus_law a b m n d e h = rw (d, e, lt-ltb (m + n) (2 ^ 32) h) refl

plains_law : (around : Cases) (vs : Vals) → plains_form around vs → plains_size around vs < 2 ^ 32
    → plains_len around vs ≡ Some (plains_size around vs)
plains_law around NoVal f h = refl
plains_law around (AndVal v vs) f h =
    let rest : plains_size around vs < 2 ^ 32 = omega arith in
    plus_law (maybe_len (plain_leaf around v)) (plains_len around vs)
    (maybe_size (plain_leaf around v)) (plains_size around vs)
    (maybe_law (plain_leaf around v) f.0) (plains_law around vs f.1 rest) h

custom_law : (around : Cases) (fs : Fields) → custom_form around fs
    → custom_len around fs ≡ Some (8 + plains_size around (many_of fs))
custom_law around (AndField (Many vs) NoField) f = ap structure_len (plains_law around vs f.0 f.1)
custom_law around NoField f = absurd f
custom_law around (AndField Absent fs) f = absurd f
custom_law around (AndField (One v) fs) f = absurd f
custom_law around (AndField (Many vs) (AndField d fs)) f = absurd f

bytes_law : (n : ℕ) (fs : Fields) (rows : RowList) → form_in (Record fs) NoCase (RowsOrBytes n rows)
    → (fields_form fs rows → fields_size fs rows < 2 ^ 32
    → fields_len fs rows ≡ Some (fields_size fs rows))
    → len_in (Record fs) NoCase (RowsOrBytes n rows) ≡ Some (size_in (Record fs) NoCase (RowsOrBytes n rows))
bytes_law n fs rows f ih = go (byte_form n fs) f
  where
    go : (o : Option (List ℕ)) → elim o as
        (λ _. Type 0) [
          | None ↦ fields_form fs rows
              × (fields_size fs rows < 2 ^ 32)
          | Some b ↦ leaf_form (byte_string b)
        ]
        → elim o as (λ _. Option ℕ) [
          | None ↦ structure_len (fields_len fs rows)
          | Some b ↦ maybe_len
              (Some (byte_string b))
        ] ≡ Some
        (elim o as (λ _. ℕ) [
          | None ↦ 8 + fields_size fs rows
          | Some b ↦ leaf_size
              (byte_string b)
        ])
    go None f = ap structure_len (ih f.0 f.1)
    go (Some b) f = maybe_law (Some (byte_string b)) f

case_law : (cases : Cases) (n : ℕ) (v : Val)
    → elim (case_at cases n) as (λ _. Type 0) [
      | None ↦ ⊥
      | Some c ↦ elim (has_wire_form c.selector) as
          (λ _. Type 0) [ true ↦ form_in v cases c.shape | false ↦ ⊥ ]
    ]
    → ((c : Found) → form_in v cases c.shape → len_in v cases c.shape ≡ Some (size_in v cases c.shape))
    → elim (case_at cases n) as (λ _. Option ℕ)
    [ None ↦ None | Some c ↦ cond (has_wire_form c.selector) (len_in v cases c.shape) None ]
    ≡ Some (elim (case_at cases n) as (λ _. ℕ) [ None ↦ 0 | Some c ↦ size_in v cases c.shape ])
case_law cases n v f ih = go (case_at cases n) f
  where
    at : (c : Found) (b : Bool) → elim b as
        (λ _. Type 0) [ true ↦ form_in v cases c.shape | false ↦ ⊥ ]
        → cond b (len_in v cases c.shape) None ≡ Some (size_in v cases c.shape)
    at c true f = ih c f
    at c false f = absurd f

    go : (o : Option Found) → elim o as
        (λ _. Type 0) [
          | None ↦ ⊥
          | Some c ↦ elim (has_wire_form c.selector) as
              (λ _. Type 0) [ true ↦ form_in v cases c.shape | false ↦ ⊥ ]
        ]
        → elim o as (λ _. Option ℕ) [
          | None ↦ None
          | Some c ↦ cond (has_wire_form c.selector)
              (len_in v cases c.shape) None
        ]
        ≡ Some (elim o as (λ _. ℕ) [ None ↦ 0 | Some c ↦ size_in v cases c.shape ])
    go None f = absurd f
    go (Some c) f = at c (has_wire_form c.selector) f

mutual
  pub len_law : (v : Val) (around : Cases) (shape : Shape) → form_in v around shape
      → len_in v around shape ≡ Some (size_in v around shape)
  len_law (Number z) around shape f = maybe_law (leaf_at shape (Number z)) f
  len_law (Text z) around shape f = maybe_law (leaf_at shape (Text z)) f
  len_law (Bytes z) around shape f = maybe_law (leaf_at shape (Bytes z)) f
  len_law (Truth z) around shape f = maybe_law (leaf_at shape (Truth z)) f
  len_law (Record fs) around (Rows rows) f = ap structure_len (fields_len_law fs rows f.0 f.1)
  len_law (Record fs) around Custom f = custom_law around fs f
  len_law (Record fs) around (RowsOrBytes n rows) f = bytes_law n fs rows f (λ g h. fields_len_law fs rows g h)
  len_law (Record fs) around (Scalar k) f = absurd f
  len_law (Record fs) around (OneOf k) f = absurd f
  len_law (Record fs) around (Choice r k) f = absurd f
  len_law (Case n v) around (Choice rule cases) f = case_law cases n v f (λ c g. len_law v cases c.shape g)
  len_law (Case n v) around (Scalar k) f = absurd f
  len_law (Case n v) around (OneOf k) f = absurd f
  len_law (Case n v) around (Rows k) f = absurd f
  len_law (Case n v) around (RowsOrBytes m k) f = absurd f
  len_law (Case n v) around Custom f = absurd f

  pub fields_len_law : (fs : Fields) (rows : RowList) → fields_form fs rows
      → fields_size fs rows < 2 ^ 32 → fields_len fs rows ≡ Some (fields_size fs rows)
  fields_len_law NoField NoRow f h = refl
  fields_len_law NoField (AndRow name place mark role shape rows) f h = absurd f
  fields_len_law (AndField d fs) NoRow f h = absurd f
  fields_len_law (AndField d fs) (AndRow name place mark role shape rows) f h =
      let first : field_size d shape < 2 ^ 32 = omega arith in
      let rest : fields_size fs rows < 2 ^ 32 = omega arith in
      plus_law (field_len d shape) (fields_len fs rows) (field_size d shape) (fields_size fs rows)
      (field_len_law d shape f.0 first) (fields_len_law fs rows f.1 rest) h

  field_len_law : (d : Field) (shape : Shape) → field_form d shape → field_size d shape < 2 ^ 32
      → field_len d shape ≡ Some (field_size d shape)
  field_len_law Absent shape f h = refl
  field_len_law (One v) shape f h = len_law v NoCase shape f
  field_len_law (Many vs) shape f h = list_len_law vs shape f h

  pub list_len_law : (vs : Vals) (shape : Shape) → list_form vs shape → list_size vs shape < 2 ^ 32
      → list_len vs shape ≡ Some (list_size vs shape)
  list_len_law NoVal shape f h = refl
  list_len_law (AndVal v vs) shape f h =
      let rest : list_size vs shape < 2 ^ 32 = omega arith in
      plus_law (len_in v NoCase shape) (list_len vs shape) (size_in v NoCase shape)
      (list_size vs shape) (len_law v NoCase shape f.0) (list_len_law vs shape f.1 rest) h
