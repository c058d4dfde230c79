-- What is written is the bytes of the tree.
use Rattle.std.proofs.Common.{◌≡◌, ℕ, ◌+◌, ◌^◌, ◌<◌, Bool, true, false, cond, length, List, [], ◌∷◌, ◌++◌, Option, Some, None, refl, sym, ◌∙◌, ap, subst, lt-ltb, length-append, append-nil, append_assoc}
use Rattle.kmip_wire.specs.Tree.{Scalar as Leaf, Tree, scalar, trees_of}
use Rattle.kmip_wire.specs.Bytes.{item_bytes, bytes, all_bytes, in_order, value_bytes}
use Rattle.kmip_shape.specs.Writes.{leaf_form, structure_head, leaf_has_form, leaf_size, leaf_text, len_of}
use Rattle.std.specs.Option.{option_and_then}
use Rattle.kmip_wire.specs.Kinds.{kind_of_scalar, code_of}
use Rattle.kmip_wire.specs.declared.kind.Kind.TheVariants.{Enumeration}
use Rattle.kmip_wire.specs.Tree.{integer, long_integer, big_integer, enumeration, boolean, text_string, byte_string, date_time, interval}
use Rattle.kmip_shape.specs.Val.{Val, Vals, Field, Fields, Number, Text, Bytes, Truth, Record, Case, Absent, One, Many, NoField, AndField, NoVal, AndVal}
use Rattle.kmip_shape.specs.Shape.{Shape, RowList, Cases, Scalar, OneOf, Rows, RowsOrBytes, Choice, Custom, NoRow, AndRow, NoCase, leaf_of, case_at, tag_or, place_tag, Found, attribute_value}
use Rattle.kmip_shape.specs.Writes.{leaf_at, maybe_form, maybe_size, maybe_text, form_in, size_in, text_in, fields_form, fields_size, fields_text, field_form, field_size, field_text, list_form, list_size, list_text, plain_leaf, plains_form, plains_size, plains_text, many_of, custom_form}
use Rattle.kmip_shape.proofs.Forms.{leaf_law}
use Rattle.kmip_shape.proofs.Aligned.{item_len, IsAligned, trees_aligned, flat}
use Rattle.kmip_shape.specs.Trees.{byte_form, has_wire_form, bytes_or, custom_trees, plain_tree, plain_trees, item, leaf_tree, then_trees, one_tree, structure_of, tree_in, field_trees, trees_in, list_trees}

then_none : (a : Option (List ℕ)) → in_order a (Some []) ≡ a
then_none None = refl
then_none (Some a) = ap Some (append-nil a)

then_assoc : (a b c : Option (List ℕ)) → in_order a (in_order b c) ≡ in_order (in_order a b) c
then_assoc None b c = refl
then_assoc (Some a) None c = refl
then_assoc (Some a) (Some b) None = refl
then_assoc (Some a) (Some b) (Some c) = ap Some (sym (append_assoc a b c))

then_nothing : (a : Option (List ℕ)) → in_order (Some []) a ≡ a
then_nothing None = refl
then_nothing (Some a) = refl

-- the bytes of two lists of trees, one after the other
pub all_append : (ts us : List Tree)
    → all_bytes (trees_of (ts ++ us)) ≡ in_order (all_bytes (trees_of ts)) (all_bytes (trees_of us))
all_append [] us = sym (then_nothing (all_bytes (trees_of us)))
all_append (t ∷ ts) us = rw (all_append ts us)
    (then_assoc (bytes t) (all_bytes (trees_of ts)) (all_bytes (trees_of us)))

-- an option's bytes
abbrev pub maybe_bytes : Option (List Tree) → Option (List ℕ)
maybe_bytes None = None
maybe_bytes (Some ts) = all_bytes (trees_of ts)

then_stop : (a : Option (List ℕ)) → in_order a None ≡ None
then_stop None = refl
then_stop (Some a) = refl

pub maybe_then : (a b : Option (List Tree)) → maybe_bytes (then_trees a b) ≡ in_order (maybe_bytes a) (maybe_bytes b)
maybe_then None b = refl
maybe_then (Some ts) None = sym (then_stop (all_bytes (trees_of ts)))
maybe_then (Some ts) (Some us) = all_append ts us

pub head_len : (tag size : ℕ) → length (structure_head tag size) ≡ 8
unfolding structure_head
head_len tag size = refl

abbrev pub tree_bytes : Option Tree → Option (List ℕ)
tree_bytes o = option_and_then bytes o

value_len : (l : Leaf) → length (value_bytes l) ≡ len_of l
value_len (integer z) = refl
value_len (long_integer z) = refl
value_len (big_integer b) = refl
value_len (enumeration z) = refl
value_len (boolean z) = refl
value_len (text_string s) = refl
value_len (byte_string s) = refl
value_len (date_time z) = refl
value_len (interval z) = refl

pub leaf_len : (tag : ℕ) (l : Leaf) → length (leaf_text tag l) ≡ leaf_size l
leaf_len tag l = item_len tag (code_of (kind_of_scalar l)) (value_bytes l) ∙ rw (value_len l) refl

pub leaf_bytes : (tag : ℕ) (l : Leaf) → bytes (scalar tag l) ≡ cond (leaf_has_form l) (Some (leaf_text tag l)) None
leaf_bytes tag l = rw (value_len l) refl

leaf_written : (tag : ℕ) (o : Option Leaf) → maybe_form o
    → (tree_bytes (item tag o) ≡ Some (maybe_text tag o))
    × (length (maybe_text tag o) ≡ maybe_size o)
leaf_written tag None h = absurd h
leaf_written tag (Some l) h = (leaf_bytes tag l ∙ rw (leaf_law l h) refl, leaf_len tag l)

shape_written : (shape : Shape) (v : Val) (tag : ℕ) → maybe_form (leaf_at shape v)
    → (tree_bytes (leaf_tree shape tag v) ≡ Some (maybe_text tag (leaf_at shape v)))
    × (length (maybe_text tag (leaf_at shape v)) ≡ maybe_size (leaf_at shape v))
shape_written (Scalar k) v tag h = leaf_written tag (leaf_of k v) h
shape_written (OneOf es) v tag h = leaf_written tag (leaf_of Enumeration v) h
shape_written _ v tag h = absurd h

pub structure_written : (tag : ℕ) (o : Option (List Tree)) (contents : List ℕ) (size : ℕ)
    → maybe_bytes o ≡ Some contents → length contents ≡ size → size < 2 ^ 32
    → (tree_bytes (structure_of tag o) ≡ Some (structure_head tag size ++ contents))
    × (length (structure_head tag size ++ contents) ≡ 8 + size)
structure_written tag None contents size h e l = absurd (clash h)
  where
    clash : None ≡ Some contents → ⊥
    clash h = cc
structure_written tag (Some ts) contents size h e l =
    let aligned : IsAligned (Some contents) = subst IsAligned h (trees_aligned (trees_of ts)) in
    let whole : item_bytes tag 1 contents ≡ structure_head tag size ++ contents =
    flat tag contents aligned ∙ rw e refl in (
      rw (h, e, lt-ltb size (2 ^ 32) l) (ap Some whole),
      length-append (structure_head tag size) contents ∙ rw (head_len tag size, e) refl,
    )

pub one_bytes : (o : Option Tree) → maybe_bytes (one_tree o) ≡ tree_bytes o
one_bytes None = refl
one_bytes (Some t) = then_none (bytes t)

pub then_written : (a b : Option (List Tree)) (x y : List ℕ) (m n : ℕ) → maybe_bytes a ≡ Some x
    → maybe_bytes b ≡ Some y → length x ≡ m → length y ≡ n
    → (maybe_bytes (then_trees a b) ≡ Some (x ++ y)) × (length (x ++ y) ≡ m + n)
then_written a b x y m n h g e f = (maybe_then a b ∙ rw (h, g) refl, length-append x y ∙ rw (e, f) refl)

-- a value is written as the bytes of its tree, of its size
abbrev pub IsWritten : Val → Cases → Shape → ℕ → Type 0
IsWritten v around shape tag =
    (tree_bytes (tree_in v around shape tag) ≡ Some (text_in v around shape tag))
    × (length (text_in v around shape tag) ≡ size_in v around shape)

case_written : (cases : Cases) (n : ℕ) (v : Val) (tag : ℕ)
    → elim (case_at cases n) as (λ _. Type 0) [
      | None ↦ ⊥
      | Some c ↦ elim (has_wire_form c.selector) as
          (λ _. Type 0) [ true ↦ form_in v cases c.shape | false ↦ ⊥ ]
    ]
    → ((c : Found) → form_in v cases c.shape → IsWritten v cases c.shape (tag_or c.tag tag))
    → (tree_bytes (elim (case_at cases n) as
    (λ _. Option Tree) [
      | None ↦ None
      | Some c ↦ cond (has_wire_form c.selector)
          (tree_in v cases c.shape (tag_or c.tag tag)) None
    ])
    ≡ Some (elim (case_at cases n) as
    (λ _. List ℕ) [ None ↦ [] | Some c ↦ text_in v cases c.shape (tag_or c.tag tag) ]))
    × (length (elim (case_at cases n) as
    (λ _. List ℕ) [ None ↦ [] | Some c ↦ text_in v cases c.shape (tag_or c.tag tag) ])
    ≡ elim (case_at cases n) as (λ _. ℕ) [ None ↦ 0 | Some c ↦ size_in v cases c.shape ])
case_written cases n v tag f ih = go (case_at cases n) f
  where
    at : (c : Found) (b : Bool) → elim b as
        (λ _. Type 0) [ true ↦ form_in v cases c.shape | false ↦ ⊥ ]
        → (tree_bytes (cond b (tree_in v cases c.shape (tag_or c.tag tag)) None)
        ≡ Some (text_in v cases c.shape (tag_or c.tag tag)))
        × (length (text_in v cases c.shape (tag_or c.tag tag)) ≡ size_in v cases c.shape)
    at c true f = ih c f
    at c false f = absurd f

    go : (o : Option Found) → elim o as
        (λ _. Type 0) [
          | None ↦ ⊥
          | Some c ↦ elim (has_wire_form c.selector) as
              (λ _. Type 0) [ true ↦ form_in v cases c.shape | false ↦ ⊥ ]
        ]
        → (tree_bytes (elim o as (λ _. Option Tree) [
          | None ↦ None
          | Some c ↦ cond (has_wire_form c.selector)
              (tree_in v cases c.shape (tag_or c.tag tag)) None
        ])
        ≡ Some (elim o as (λ _. List ℕ)
        [ None ↦ [] | Some c ↦ text_in v cases c.shape (tag_or c.tag tag) ]))
        × (length (elim o as (λ _. List ℕ)
        [ None ↦ [] | Some c ↦ text_in v cases c.shape (tag_or c.tag tag) ])
        ≡ elim o as (λ _. ℕ) [ None ↦ 0 | Some c ↦ size_in v cases c.shape ])
    go None f = absurd f
    go (Some c) f = at c (has_wire_form c.selector) f

plain_written : (around : Cases) (v : Val) → maybe_form (plain_leaf around v)
    → (tree_bytes (plain_tree around v) ≡ Some (maybe_text attribute_value (plain_leaf around v)))
    × (length (maybe_text attribute_value (plain_leaf around v)) ≡ maybe_size (plain_leaf around v))
plain_written around (Case n v) f = go (case_at around n) f
  where
    go : (o : Option Found) → maybe_form (elim o as (λ _. Option Leaf) [ None ↦ None | Some c ↦ leaf_at c.shape v ])
        → (tree_bytes (elim o as (λ _. Option Tree)
        [ None ↦ None | Some c ↦ leaf_tree c.shape attribute_value v ])
        ≡ Some (maybe_text attribute_value
        (elim o as (λ _. Option Leaf) [ None ↦ None | Some c ↦ leaf_at c.shape v ])))
        × (length (maybe_text attribute_value
        (elim o as (λ _. Option Leaf) [ None ↦ None | Some c ↦ leaf_at c.shape v ]))
        ≡ maybe_size (elim o as (λ _. Option Leaf)
        [ None ↦ None | Some c ↦ leaf_at c.shape v ]))
    go None f = absurd f
    go (Some c) f = shape_written c.shape v attribute_value f
plain_written around (Number z) f = absurd f
plain_written around (Text z) f = absurd f
plain_written around (Bytes z) f = absurd f
plain_written around (Truth z) f = absurd f
plain_written around (Record z) f = absurd f

plains_written : (around : Cases) (vs : Vals) → plains_form around vs
    → (maybe_bytes (plain_trees around vs) ≡ Some (plains_text around vs))
    × (length (plains_text around vs) ≡ plains_size around vs)
plains_written around NoVal f = (refl, refl)
plains_written around (AndVal v vs) f =
    let p = plain_written around v f.0 in
    let q = plains_written around vs f.1 in
    then_written (one_tree (plain_tree around v)) (plain_trees around vs)
    (maybe_text attribute_value (plain_leaf around v)) (plains_text around vs)
    (maybe_size (plain_leaf around v)) (plains_size around vs)
    (one_bytes (plain_tree around v) ∙ p.0) q.0 p.1 q.1

custom_written : (around : Cases) (fs : Fields) (tag : ℕ) → custom_form around fs
    → (tree_bytes (structure_of tag (custom_trees around fs))
    ≡ Some (structure_head tag (plains_size around (many_of fs))
    ++ plains_text around (many_of fs)))
    × (length (structure_head tag (plains_size around (many_of fs))
    ++ plains_text around (many_of fs)) ≡ 8 + plains_size around (many_of fs))
custom_written around (AndField (Many vs) NoField) tag f =
    let p = plains_written around vs f.0 in
    structure_written tag (plain_trees around vs) (plains_text around vs)
    (plains_size around vs) p.0 p.1 f.1
custom_written around NoField tag f = absurd f
custom_written around (AndField Absent fs) tag f = absurd f
custom_written around (AndField (One v) fs) tag f = absurd f
custom_written around (AndField (Many vs) (AndField d fs)) tag f = absurd f

bytes_written : (n : ℕ) (fs : Fields) (around : Cases) (rows : RowList) (tag : ℕ)
    → form_in (Record fs) around (RowsOrBytes n rows)
    → (fields_form fs rows → fields_size fs rows < 2 ^ 32
    → IsWritten (Record fs) around (Rows rows) tag)
    → IsWritten (Record fs) around (RowsOrBytes n rows) tag
bytes_written n fs around rows tag f ih = go (byte_form n fs) f
  where
    go : (o : Option (List ℕ)) → elim o as
        (λ _. Type 0) [
          | None ↦ fields_form fs rows
              × (fields_size fs rows < 2 ^ 32)
          | Some b ↦ leaf_form (byte_string b)
        ]
        → (tree_bytes (bytes_or tag o (structure_of tag (field_trees fs NoCase rows)))
        ≡ Some (elim o as (λ _. List ℕ) [
          | None ↦ structure_head tag (fields_size fs rows)
              ++ fields_text fs rows
          | Some b ↦ leaf_text tag (byte_string b)
        ]))
        × (length (elim o as (λ _. List ℕ) [
          | None ↦ structure_head tag (fields_size fs rows)
              ++ fields_text fs rows
          | Some b ↦ leaf_text tag (byte_string b)
        ])
        ≡ elim o as (λ _. ℕ) [
          | None ↦ 8
              + fields_size fs rows
          | Some b ↦ leaf_size (byte_string b)
        ])
    go None f = ih f.0 f.1
    go (Some b) f = leaf_written tag (Some (byte_string b)) f

mutual
  pub written : (v : Val) (around : Cases) (shape : Shape) (tag : ℕ) → form_in v around shape
      → IsWritten v around shape tag
  written (Number z) around shape tag f = shape_written shape (Number z) tag f
  written (Text z) around shape tag f = shape_written shape (Text z) tag f
  written (Bytes z) around shape tag f = shape_written shape (Bytes z) tag f
  written (Truth z) around shape tag f = shape_written shape (Truth z) tag f
  written (Record fs) around (Rows rows) tag f =
      let p = fields_written fs rows f.0 in
      structure_written tag (field_trees fs NoCase rows) (fields_text fs rows)
      (fields_size fs rows) p.0 p.1 f.1
  written (Record fs) around (RowsOrBytes n rows) tag f =
      bytes_written n fs around rows tag f
      (λ g l. let p = fields_written fs rows g in
      structure_written tag (field_trees fs NoCase rows) (fields_text fs rows)
      (fields_size fs rows) p.0 p.1 l)
  written (Record fs) around Custom tag f = custom_written around fs tag f
  written (Record fs) around (Scalar k) tag f = absurd f
  written (Record fs) around (OneOf k) tag f = absurd f
  written (Record fs) around (Choice r k) tag f = absurd f
  written (Case n v) around (Choice rule cases) tag f =
      case_written cases n v tag f (λ c g. written v cases c.shape (tag_or c.tag tag) g)
  written (Case n v) around (Scalar k) tag f = absurd f
  written (Case n v) around (OneOf k) tag f = absurd f
  written (Case n v) around (Rows k) tag f = absurd f
  written (Case n v) around (RowsOrBytes m k) tag f = absurd f
  written (Case n v) around Custom tag f = absurd f

  fields_written : (fs : Fields) (rows : RowList) → fields_form fs rows
      → (maybe_bytes (field_trees fs NoCase rows) ≡ Some (fields_text fs rows))
      × (length (fields_text fs rows) ≡ fields_size fs rows)
  fields_written NoField NoRow f = (refl, refl)
  fields_written NoField (AndRow name place mark role shape rows) f = absurd f
  fields_written (AndField d fs) NoRow f = absurd f
  fields_written (AndField d fs) (AndRow name place mark role shape rows) f =
      let p = field_written d shape (place_tag place) f.0 in
      let q = fields_written fs rows f.1 in
      then_written (trees_in d NoCase shape (place_tag place)) (field_trees fs NoCase rows)
      (field_text d shape (place_tag place)) (fields_text fs rows) (field_size d shape)
      (fields_size fs rows) p.0 q.0 p.1 q.1

  field_written : (d : Field) (shape : Shape) (tag : ℕ) → field_form d shape
      → (maybe_bytes (trees_in d NoCase shape tag) ≡ Some (field_text d shape tag))
      × (length (field_text d shape tag) ≡ field_size d shape)
  field_written Absent shape tag f = (refl, refl)
  field_written (One v) shape tag f =
      let p = written v NoCase shape tag f in (one_bytes (tree_in v NoCase shape tag) ∙ p.0, p.1)
  field_written (Many vs) shape tag f = list_written vs shape tag f

  list_written : (vs : Vals) (shape : Shape) (tag : ℕ) → list_form vs shape
      → (maybe_bytes (list_trees vs NoCase shape tag) ≡ Some (list_text vs shape tag))
      × (length (list_text vs shape tag) ≡ list_size vs shape)
  list_written NoVal shape tag f = (refl, refl)
  list_written (AndVal v vs) shape tag f =
      let p = written v NoCase shape tag f.0 in
      let q = list_written vs shape tag f.1 in
      then_written (one_tree (tree_in v NoCase shape tag)) (list_trees vs NoCase shape tag)
      (text_in v NoCase shape tag) (list_text vs shape tag) (size_in v NoCase shape)
      (list_size vs shape) (one_bytes (tree_in v NoCase shape tag) ∙ p.0) q.0 p.1 q.1
