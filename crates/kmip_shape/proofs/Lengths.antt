-- The length of a value is that of the bytes of its tree, and there is none exactly where there are no bytes.
use Rattle.std.proofs.Common.{◌≡◌, ℕ, ◌+◌, ◌^◌, ◌≤◌, ◌%◌, Bool, true, false, cond, nat_lt, length, List, Option, Some, None, refl, sym, ◌∙◌, ap, arith, ltb-false, le-ltb, length-append}
use Rattle.std.specs.Option.{option_map}
use Rattle.kmip_wire.specs.Tree.{Scalar as Leaf, Tree, trees_of, byte_string}
use Rattle.kmip_wire.specs.declared.kind.Kind.TheVariants.{Enumeration}
use Rattle.kmip_wire.specs.Bytes.{item_bytes, structure_bytes, all_bytes, in_order}
use Rattle.kmip_shape.specs.Writes.{leaf_has_form, leaf_size, leaf_text}
use Rattle.kmip_shape.specs.Val.{Val, Vals, Field, Fields, Number, Text, Bytes, Truth, Record, Case, Absent, One, Many, NoField, AndField, NoVal, AndVal}
use Rattle.kmip_shape.specs.Shape.{Shape, RowList, Cases, Scalar, OneOf, Rows, RowsOrBytes, Choice, Custom, NoRow, AndRow, NoCase, leaf_of, case_at, tag_or, place_tag, Found, attribute_value}
use Rattle.kmip_shape.specs.Trees.{byte_form, has_wire_form, bytes_or, custom_trees, plain_tree, plain_trees, item, leaf_tree, then_trees, one_tree, structure_of, tree_in, field_trees, trees_in, list_trees}
use Rattle.kmip_shape.specs.Writes.{leaf_at, maybe_len, plus_len, structure_len, plain_leaf, plains_len, custom_len, len_in, fields_len, field_len, list_len, wire_len_of, bytes_of}
use Rattle.kmip_shape.proofs.Aligned.{item_len, IsAligned, trees_aligned}
use Rattle.kmip_shape.proofs.WrittenText.{tree_bytes, maybe_bytes, maybe_then, one_bytes, leaf_bytes, leaf_len}

abbrev plus : Option ℕ → Option ℕ → Option ℕ
plus None b = None
plus (Some a) None = None
plus (Some a) (Some b) = Some (a + b)

-- a length, where it is below what a length field holds
abbrev limit : Option ℕ → Option ℕ
limit None = None
limit (Some n) = cond (nat_lt n (2 ^ 32)) (Some n) None

abbrev text_length : Option (List ℕ) → Option ℕ
text_length = option_map length

abbrev trees_length : Option (List Tree) → Option ℕ
trees_length o = text_length (maybe_bytes o)

plus_limit : (a b : Option ℕ) → plus_len a b ≡ limit (plus a b)
plus_limit None b = refl
plus_limit (Some a) None = refl
plus_limit (Some a) (Some b) = refl

limit_left : (a b : Option ℕ) → limit (plus (limit a) b) ≡ limit (plus a b)
limit_left None b = refl
limit_left (Some a) None = go (nat_lt a (2 ^ 32))
  where
    go : (q : Bool) → limit (plus (cond q (Some a) None) None) ≡ None
    go true = refl
    go false = refl
limit_left (Some a) (Some b) = go (nat_lt a (2 ^ 32)) refl
  where
    go : (q : Bool) → nat_lt a (2 ^ 32) ≡ q → limit (plus (cond q (Some a) None) (Some b)) ≡ limit (Some (a + b))
    go true e = refl
    go false e =
        let l : 2 ^ 32 ≤ a = ltb-false a (2 ^ 32) e in
        let m : 2 ^ 32 ≤ a + b = omega arith in
        rw (le-ltb (a + b) (2 ^ 32) m) refl

limit_right : (a b : Option ℕ) → limit (plus a (limit b)) ≡ limit (plus a b)
limit_right None b = refl
limit_right (Some a) None = refl
limit_right (Some a) (Some b) = go (nat_lt b (2 ^ 32)) refl
  where
    go : (q : Bool) → nat_lt b (2 ^ 32) ≡ q → limit (plus (Some a) (cond q (Some b) None)) ≡ limit (Some (a + b))
    go true e = refl
    go false e =
        let l : 2 ^ 32 ≤ b = ltb-false b (2 ^ 32) e in
        let m : 2 ^ 32 ≤ a + b = omega arith in
        rw (le-ltb (a + b) (2 ^ 32) m) refl

limit_limit : (a : Option ℕ) → limit (limit a) ≡ limit a
limit_limit None = refl
limit_limit (Some a) = go (nat_lt a (2 ^ 32)) refl
  where
    go : (q : Bool) → nat_lt a (2 ^ 32) ≡ q → limit (cond q (Some a) None) ≡ cond q (Some a) None
    go true e = rw e refl
    go false e = refl

same_plus : (a b x y : Option ℕ) → limit a ≡ limit x → limit b ≡ limit y → plus_len a b ≡ limit (plus x y)
same_plus a b x y h g =
    plus_limit a b ∙ (sym (limit_left a b) ∙ (ap (λ (o : Option ℕ). limit (plus o b)) h ∙ (limit_left x b
    ∙ (sym (limit_right x b) ∙ (ap (λ (o : Option ℕ). limit (plus x o)) g ∙ limit_right x y)))))

text_plus : (x y : Option (List ℕ)) → text_length (in_order x y) ≡ plus (text_length x) (text_length y)
text_plus None y = refl
text_plus (Some x) None = refl
text_plus (Some x) (Some y) = ap Some (length-append x y)

then_length : (a b : Option (List Tree)) → trees_length (then_trees a b) ≡ plus (trees_length a) (trees_length b)
then_length a b = ap text_length (maybe_then a b) ∙ text_plus (maybe_bytes a) (maybe_bytes b)

structure_length : (tag : ℕ) (o : Option (List Tree))
    → structure_len (limit (trees_length o)) ≡ text_length (tree_bytes (structure_of tag o))
structure_length tag None = refl
structure_length tag (Some ts) = go (all_bytes (trees_of ts)) (trees_aligned (trees_of ts))
  where
    at : (c : List ℕ) (q : Bool) → length c % 8 ≡ 0
        → structure_len (cond q (Some (length c)) None)
        ≡ text_length (cond q (Some (item_bytes tag 1 c)) None)
    at c true h = ap Some (sym (item_len tag 1 c ∙ (omega arith)))
    at c false h = refl

    go : (o : Option (List ℕ)) → IsAligned o
        → structure_len (limit (text_length o)) ≡ text_length (structure_bytes tag o)
    go None h = refl
    go (Some c) h = at c (nat_lt (length c) (2 ^ 32)) h

leaf_length : (tag : ℕ) (o : Option Leaf) → maybe_len o ≡ text_length (tree_bytes (item tag o))
leaf_length tag None = refl
leaf_length tag (Some l) = go (leaf_has_form l) ∙ ap text_length (sym (leaf_bytes tag l))
  where
    go : (q : Bool) → cond q (Some (leaf_size l)) None ≡ text_length (cond q (Some (leaf_text tag l)) None)
    go true = ap Some (sym (leaf_len tag l))
    go false = refl

shape_length : (shape : Shape) (v : Val) (tag : ℕ)
    → maybe_len (leaf_at shape v) ≡ text_length (tree_bytes (leaf_tree shape tag v))
shape_length (Scalar k) v tag = leaf_length tag (leaf_of k v)
shape_length (OneOf es) v tag = leaf_length tag (leaf_of Enumeration v)
shape_length (Rows rows) v tag = refl
shape_length (RowsOrBytes n rows) v tag = refl
shape_length (Choice rule cases) v tag = refl
shape_length Custom v tag = refl

one_length : (o : Option Tree) → trees_length (one_tree o) ≡ text_length (tree_bytes o)
one_length o = ap text_length (one_bytes o)

plain_length : (around : Cases) (v : Val)
    → maybe_len (plain_leaf around v) ≡ text_length (tree_bytes (plain_tree around v))
plain_length around (Case n v) = go (case_at around n)
  where
    go : (o : Option Found) → maybe_len
        (elim o as (λ _. Option Leaf) [ None ↦ None | Some c ↦ leaf_at c.shape v ])
        ≡ text_length (tree_bytes (elim o as (λ _. Option Tree)
        [ None ↦ None | Some c ↦ leaf_tree c.shape attribute_value v ]))
    go None = refl
    go (Some c) = shape_length c.shape v attribute_value
plain_length around (Number z) = refl
plain_length around (Text z) = refl
plain_length around (Bytes z) = refl
plain_length around (Truth z) = refl
plain_length around (Record z) = refl

plains_length : (around : Cases) (vs : Vals) → plains_len around vs ≡ limit (trees_length (plain_trees around vs))
plains_length around NoVal = refl
plains_length around (AndVal v vs) =
    same_plus (maybe_len (plain_leaf around v)) (plains_len around vs)
    (trees_length (one_tree (plain_tree around v))) (trees_length (plain_trees around vs))
    (ap limit (plain_length around v ∙ sym (one_length (plain_tree around v))))
    (ap limit (plains_length around vs) ∙ limit_limit (trees_length (plain_trees around vs)))
    ∙ ap limit (sym (then_length (one_tree (plain_tree around v)) (plain_trees around vs)))

custom_length : (around : Cases) (fs : Fields) (tag : ℕ)
    → custom_len around fs ≡ text_length (tree_bytes (structure_of tag (custom_trees around fs)))
custom_length around (AndField (Many vs) NoField) tag =
    ap structure_len (plains_length around vs) ∙ structure_length tag (plain_trees around vs)
custom_length around NoField tag = refl
custom_length around (AndField Absent fs) tag = refl
custom_length around (AndField (One v) fs) tag = refl
custom_length around (AndField (Many vs) (AndField d fs)) tag = refl

bytes_length : (n : ℕ) (fs : Fields) (around : Cases) (rows : RowList) (tag : ℕ)
    → structure_len (fields_len fs rows)
    ≡ text_length (tree_bytes (structure_of tag (field_trees fs NoCase rows)))
    → len_in (Record fs) around (RowsOrBytes n rows)
    ≡ text_length (tree_bytes (tree_in (Record fs) around (RowsOrBytes n rows) tag))
bytes_length n fs around rows tag h = go (byte_form n fs)
  where
    go : (o : Option (List ℕ)) → elim o as
        (λ _. Option ℕ) [
          | None ↦ structure_len (fields_len fs rows)
          | Some b ↦ maybe_len
              (Some (byte_string b))
        ] ≡ text_length
        (tree_bytes (bytes_or tag o (structure_of tag (field_trees fs NoCase rows))))
    go None = h
    go (Some b) = leaf_length tag (Some (byte_string b))

case_length : (cases : Cases) (n : ℕ) (v : Val) (tag : ℕ)
    → ((c : Found) → len_in v cases c.shape
    ≡ text_length (tree_bytes (tree_in v cases c.shape (tag_or c.tag tag))))
    → elim (case_at cases n) as (λ _. Option ℕ)
    [ None ↦ None | Some c ↦ cond (has_wire_form c.selector) (len_in v cases c.shape) None ]
    ≡ text_length (tree_bytes (elim (case_at cases n) as (λ _. Option Tree) [
      | None ↦ None
      | Some c ↦ cond (has_wire_form c.selector)
          (tree_in v cases c.shape (tag_or c.tag tag)) None
    ]))
case_length cases n v tag ih = go (case_at cases n)
  where
    at : (c : Found) (q : Bool) → cond q (len_in v cases c.shape) None
        ≡ text_length (tree_bytes (cond q (tree_in v cases c.shape (tag_or c.tag tag)) None))
    at c true = ih c
    at c false = refl

    go : (o : Option Found) → elim o as
        (λ _. Option ℕ) [
          | None ↦ None
          | Some c ↦ cond (has_wire_form c.selector)
              (len_in v cases c.shape) None
        ]
        ≡ text_length (tree_bytes (elim o as (λ _. Option Tree) [
          | None ↦ None
          | Some c ↦ cond (has_wire_form c.selector)
              (tree_in v cases c.shape (tag_or c.tag tag)) None
        ]))
    go None = refl
    go (Some c) = at c (has_wire_form c.selector)

mutual
  pub value_length : (v : Val) (around : Cases) (shape : Shape) (tag : ℕ)
      → len_in v around shape ≡ text_length (tree_bytes (tree_in v around shape tag))
  value_length (Number z) around shape tag = shape_length shape (Number z) tag
  value_length (Text z) around shape tag = shape_length shape (Text z) tag
  value_length (Bytes z) around shape tag = shape_length shape (Bytes z) tag
  value_length (Truth z) around shape tag = shape_length shape (Truth z) tag
  value_length (Record fs) around (Rows rows) tag =
      ap structure_len (fields_length fs rows) ∙ structure_length tag (field_trees fs NoCase rows)
  value_length (Record fs) around (RowsOrBytes n rows) tag =
      bytes_length n fs around rows tag
      (ap structure_len (fields_length fs rows)
      ∙ structure_length tag (field_trees fs NoCase rows))
  value_length (Record fs) around Custom tag = custom_length around fs tag
  value_length (Record fs) around (Scalar k) tag = refl
  value_length (Record fs) around (OneOf k) tag = refl
  value_length (Record fs) around (Choice r k) tag = refl
  value_length (Case n v) around (Choice rule cases) tag =
      case_length cases n v tag (λ c. value_length v cases c.shape (tag_or c.tag tag))
  value_length (Case n v) around (Scalar k) tag = refl
  value_length (Case n v) around (OneOf k) tag = refl
  value_length (Case n v) around (Rows k) tag = refl
  value_length (Case n v) around (RowsOrBytes m k) tag = refl
  value_length (Case n v) around Custom tag = refl

  fields_length : (fs : Fields) (rows : RowList)
      → fields_len fs rows ≡ limit (trees_length (field_trees fs NoCase rows))
  fields_length NoField NoRow = refl
  fields_length NoField (AndRow name place mark role shape rows) = refl
  fields_length (AndField d fs) NoRow = refl
  fields_length (AndField d fs) (AndRow name place mark role shape rows) =
      same_plus (field_len d shape) (fields_len fs rows)
      (trees_length (trees_in d NoCase shape (place_tag place)))
      (trees_length (field_trees fs NoCase rows))
      (field_length d shape (place_tag place))
      (ap limit (fields_length fs rows)
      ∙ limit_limit (trees_length (field_trees fs NoCase rows)))
      ∙ ap limit (sym (then_length (trees_in d NoCase shape (place_tag place)) (field_trees fs NoCase rows)))

  field_length : (d : Field) (shape : Shape) (tag : ℕ)
      → limit (field_len d shape) ≡ limit (trees_length (trees_in d NoCase shape tag))
  field_length Absent shape tag = refl
  field_length (One v) shape tag = ap limit
      (value_length v NoCase shape tag ∙ sym (one_length (tree_in v NoCase shape tag)))
  field_length (Many vs) shape tag = ap limit (list_length vs shape tag)
      ∙ limit_limit (trees_length (list_trees vs NoCase shape tag))

  list_length : (vs : Vals) (shape : Shape) (tag : ℕ)
      → list_len vs shape ≡ limit (trees_length (list_trees vs NoCase shape tag))
  list_length NoVal shape tag = refl
  list_length (AndVal v vs) shape tag =
      same_plus (len_in v NoCase shape) (list_len vs shape)
      (trees_length (one_tree (tree_in v NoCase shape tag)))
      (trees_length (list_trees vs NoCase shape tag))
      (ap limit (value_length v NoCase shape tag ∙ sym (one_length (tree_in v NoCase shape tag))))
      (ap limit (list_length vs shape tag)
      ∙ limit_limit (trees_length (list_trees vs NoCase shape tag)))
      ∙ ap limit (sym (then_length (one_tree (tree_in v NoCase shape tag)) (list_trees vs NoCase shape tag)))

pub wire_len_law : (shape : Shape) (tag : ℕ) (v : Val) → wire_len_of shape v ≡ option_map length (bytes_of shape tag v)
wire_len_law shape tag v = value_length v NoCase shape tag
