-- A value with a length has a form of that size.
use Rattle.std.proofs.Common.{◌≡◌, ℕ, ◌+◌, ◌^◌, ◌<◌, ◌%◌, Bool, true, false, cond, ◌&&◌, nat_lt, nat_eq, length, List, Option, Some, None, refl, arith, ltb-true, subst}
use Rattle.kmip_wire.specs.Tree.{Scalar as Leaf, integer, long_integer, big_integer, enumeration, boolean, text_string, byte_string, date_time, interval}
use Rattle.kmip_shape.specs.Writes.{leaf_form, leaf_has_form, leaf_size}
use Rattle.kmip_shape.specs.Val.{Val, Vals, Field, Fields, Number, Text, Bytes, Truth, Record, Case, Absent, One, Many, NoField, AndField, NoVal, AndVal}
use Rattle.kmip_shape.specs.Shape.{Shape, RowList, Cases, Scalar, OneOf, Rows, RowsOrBytes, Choice, Custom, NoRow, AndRow, NoCase, Found, case_at}
use Rattle.kmip_shape.specs.Trees.{byte_form, has_wire_form}
use Rattle.kmip_shape.specs.Writes.{leaf_at, maybe_form, maybe_len, maybe_size, plain_leaf, plains_form, plains_len, plains_size, many_of, custom_form, custom_len, plus_len, structure_len, form_in, len_in, size_in, fields_form, fields_len, fields_size, field_form, field_len, field_size, list_form, list_len, list_size}
use Rattle.kmip_shape.proofs.Parts.{none_some, some_same}
use Rattle.kmip_shape.proofs.Lists.{eq_same}

leaf_known : (l : Leaf) → leaf_has_form l ≡ true → leaf_form l
leaf_known (integer z) h = omega arith
leaf_known (long_integer z) h = omega arith
leaf_known (big_integer b) h = go (nat_eq (length b % 8) 0) refl h
  where
    go : (q : Bool) → nat_eq (length b % 8) 0 ≡ q → (q && nat_lt (length b) (2 ^ 32)) ≡ true
        → (length b < 2 ^ 32) × (length b % 8 ≡ 0)
    go true e k = (ltb-true (length b) (2 ^ 32) k, eq_same (length b % 8) 0 e)
    go false e k = cc
leaf_known (enumeration z) h = omega arith
leaf_known (boolean z) h = omega arith
leaf_known (text_string s) h = ltb-true (length s) (2 ^ 32) h
leaf_known (byte_string s) h = ltb-true (length s) (2 ^ 32) h
leaf_known (date_time z) h = omega arith
leaf_known (interval z) h = omega arith

maybe_known : (o : Option Leaf) (n : ℕ) → maybe_len o ≡ Some n → maybe_form o × (maybe_size o ≡ n)
maybe_known None n h = none_some _ h
maybe_known (Some l) n h = go (leaf_has_form l) refl h
  where
    go : (q : Bool) → leaf_has_form l ≡ q → cond q (Some (leaf_size l)) None ≡ Some n → leaf_form l × (leaf_size l ≡ n)
    go true e k = (leaf_known l e, some_same (leaf_size l) n k)
    go false e k = none_some _ k

plus_known : (a b : Option ℕ) (n : ℕ) → plus_len a b ≡ Some n → (x : ℕ) × (y : ℕ) × (a ≡ Some x)
    × (b ≡ Some y) × (x + y ≡ n) × (n < 2 ^ 32)
plus_known None b n h = none_some _ h
plus_known (Some a) None n h = none_some _ h
plus_known (Some a) (Some b) n h = go (nat_lt (a + b) (2 ^ 32)) refl h
  where
    go : (q : Bool) → nat_lt (a + b) (2 ^ 32) ≡ q → cond q (Some (a + b)) None ≡ Some n → (x : ℕ)
        × (y : ℕ) × (Some a ≡ Some x) × (Some b ≡ Some y) × (x + y ≡ n) × (n < 2 ^ 32)
    go true e k =
        let s : a + b ≡ n = some_same (a + b) n k in
        (a, b, refl, refl, s, subst (λ (m : ℕ). m < 2 ^ 32) s (ltb-true (a + b) (2 ^ 32) e))
    go false e k = none_some _ k

structure_known : (o : Option ℕ) (n : ℕ) → structure_len o ≡ Some n → (m : ℕ) × (o ≡ Some m) × (8 + m ≡ n)
structure_known None n h = none_some _ h
structure_known (Some m) n h = (m, refl, some_same (8 + m) n h)

plains_known : (around : Cases) (vs : Vals) (n : ℕ) → plains_len around vs ≡ Some n
    → plains_form around vs × (plains_size around vs ≡ n) × (n < 2 ^ 32)
plains_known around NoVal n h = let e : 0 ≡ n = some_same 0 n h in (tt, e, omega arith)
plains_known around (AndVal v vs) n h =
    let p = plus_known (maybe_len (plain_leaf around v)) (plains_len around vs) n h in
    let a = maybe_known (plain_leaf around v) p.0 p.2 in
    let b = plains_known around vs p.1 p.3 in
    ((a.0, b.0), rw (a.1, b.1) p.4, p.5)

custom_known : (around : Cases) (fs : Fields) (n : ℕ) → custom_len around fs ≡ Some n
    → custom_form around fs × (8 + plains_size around (many_of fs) ≡ n)
custom_known around (AndField (Many vs) NoField) n h =
    let s = structure_known (plains_len around vs) n h in
    let p = plains_known around vs s.0 s.1 in
    ((p.0, rw p.1 p.2), rw p.1 s.2)
custom_known around NoField n h = none_some _ h
custom_known around (AndField Absent fs) n h = none_some _ h
custom_known around (AndField (One v) fs) n h = none_some _ h
custom_known around (AndField (Many vs) (AndField d fs)) n h = none_some _ h

bytes_known : (m : ℕ) (fs : Fields) (around : Cases) (rows : RowList) (n : ℕ)
    → len_in (Record fs) around (RowsOrBytes m rows) ≡ Some n
    → (structure_len (fields_len fs rows) ≡ Some n
    → (fields_form fs rows × (fields_size fs rows < 2 ^ 32)) × (8 + fields_size fs rows ≡ n))
    → form_in (Record fs) around (RowsOrBytes m rows) × (size_in (Record fs) around (RowsOrBytes m rows) ≡ n)
bytes_known m fs around rows n h ih = go (byte_form m fs) h
  where
    go : (o : Option (List ℕ)) → elim o as
        (λ _. Option ℕ) [
          | None ↦ structure_len (fields_len fs rows)
          | Some b ↦ maybe_len
              (Some (byte_string b))
        ] ≡ Some n
        → elim o as (λ _. Type 0) [
          | None ↦ fields_form fs rows × (fields_size fs rows < 2 ^ 32)
          | Some b ↦ leaf_form (byte_string b)
        ]
        × (elim o as (λ _. ℕ) [
          | None ↦ 8
              + fields_size fs rows
          | Some b ↦ leaf_size (byte_string b)
        ] ≡ n)
    go None h = ih h
    go (Some b) h = maybe_known (Some (byte_string b)) n h

case_known : (cases : Cases) (m : ℕ) (v : Val) (n : ℕ)
    → elim (case_at cases m) as (λ _. Option ℕ)
    [ None ↦ None | Some c ↦ cond (has_wire_form c.selector) (len_in v cases c.shape) None ]
    ≡ Some n
    → ((c : Found) → len_in v cases c.shape ≡ Some n → form_in v cases c.shape × (size_in v cases c.shape ≡ n))
    → elim (case_at cases m) as (λ _. Type 0) [
      | None ↦ ⊥
      | Some c ↦ elim (has_wire_form c.selector) as
          (λ _. Type 0) [ true ↦ form_in v cases c.shape | false ↦ ⊥ ]
    ]
    × (elim (case_at cases m) as (λ _. ℕ) [ None ↦ 0 | Some c ↦ size_in v cases c.shape ] ≡ n)
case_known cases m v n h ih = go (case_at cases m) h
  where
    at : (c : Found) (q : Bool) → cond q (len_in v cases c.shape) None ≡ Some n
        → elim q as (λ _. Type 0) [ true ↦ form_in v cases c.shape | false ↦ ⊥ ]
        × (size_in v cases c.shape ≡ n)
    at c true h = ih c h
    at c false h = none_some _ h

    go : (o : Option Found) → elim o as
        (λ _. Option ℕ) [
          | None ↦ None
          | Some c ↦ cond (has_wire_form c.selector)
              (len_in v cases c.shape) None
        ] ≡ Some n
        → elim o as (λ _. Type 0) [
          | None ↦ ⊥
          | Some c ↦ elim (has_wire_form c.selector) as
              (λ _. Type 0) [ true ↦ form_in v cases c.shape | false ↦ ⊥ ]
        ]
        × (elim o as (λ _. ℕ) [ None ↦ 0 | Some c ↦ size_in v cases c.shape ] ≡ n)
    go None h = none_some _ h
    go (Some c) h = at c (has_wire_form c.selector) h

mutual
  pub value_known : (v : Val) (around : Cases) (shape : Shape) (n : ℕ)
      → len_in v around shape ≡ Some n → form_in v around shape × (size_in v around shape ≡ n)
  value_known (Number z) around shape n h = maybe_known (leaf_at shape (Number z)) n h
  value_known (Text z) around shape n h = maybe_known (leaf_at shape (Text z)) n h
  value_known (Bytes z) around shape n h = maybe_known (leaf_at shape (Bytes z)) n h
  value_known (Truth z) around shape n h = maybe_known (leaf_at shape (Truth z)) n h
  value_known (Record fs) around (Rows rows) n h =
      let s = structure_known (fields_len fs rows) n h in
      let p = fields_known fs rows s.0 s.1 in
      ((p.0, rw p.1 p.2), rw p.1 s.2)
  value_known (Record fs) around (RowsOrBytes m rows) n h =
      bytes_known m fs around rows n h (λ k.
      let s = structure_known (fields_len fs rows) n k in
      let p = fields_known fs rows s.0 s.1 in
      ((p.0, rw p.1 p.2), rw p.1 s.2))
  value_known (Record fs) around Custom n h = custom_known around fs n h
  value_known (Record fs) around (Scalar k) n h = none_some _ h
  value_known (Record fs) around (OneOf k) n h = none_some _ h
  value_known (Record fs) around (Choice r k) n h = none_some _ h
  value_known (Case m v) around (Choice rule cases) n h =
      case_known cases m v n h (λ c k. value_known v cases c.shape n k)
  value_known (Case m v) around (Scalar k) n h = none_some _ h
  value_known (Case m v) around (OneOf k) n h = none_some _ h
  value_known (Case m v) around (Rows k) n h = none_some _ h
  value_known (Case m v) around (RowsOrBytes j k) n h = none_some _ h
  value_known (Case m v) around Custom n h = none_some _ h

  fields_known : (fs : Fields) (rows : RowList) (n : ℕ) → fields_len fs rows ≡ Some n
      → fields_form fs rows × (fields_size fs rows ≡ n) × (n < 2 ^ 32)
  fields_known NoField NoRow n h = let e : 0 ≡ n = some_same 0 n h in (tt, e, omega arith)
  fields_known NoField (AndRow name place mark role shape rows) n h = none_some _ h
  fields_known (AndField d fs) NoRow n h = none_some _ h
  fields_known (AndField d fs) (AndRow name place mark role shape rows) n h =
      let p = plus_known (field_len d shape) (fields_len fs rows) n h in
      let a = field_known d shape p.0 p.2 in
      let b = fields_known fs rows p.1 p.3 in
      ((a.0, b.0), rw (a.1, b.1) p.4, p.5)

  field_known : (d : Field) (shape : Shape) (n : ℕ) → field_len d shape ≡ Some n
      → field_form d shape × (field_size d shape ≡ n)
  field_known Absent shape n h = (tt, some_same 0 n h)
  field_known (One v) shape n h = value_known v NoCase shape n h
  field_known (Many vs) shape n h = let p = list_known vs shape n h in (p.0, p.1)

  list_known : (vs : Vals) (shape : Shape) (n : ℕ) → list_len vs shape ≡ Some n → list_form vs shape
      × (list_size vs shape ≡ n) × (n < 2 ^ 32)
  list_known NoVal shape n h = let e : 0 ≡ n = some_same 0 n h in (tt, e, omega arith)
  list_known (AndVal v vs) shape n h =
      let p = plus_known (len_in v NoCase shape) (list_len vs shape) n h in
      let a = value_known v NoCase shape p.0 p.2 in
      let b = list_known vs shape p.1 p.3 in
      ((a.0, b.0), rw (a.1, b.1) p.4, p.5)
