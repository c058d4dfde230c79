-- What a tree that exists is made of, and the tags that it stands under.
use Rattle.std.proofs.Common.{◌≡◌, ℕ, pos, Bool, true, false, cond, List, [], ◌∷◌, ◌++◌, Option, Some, None, IfSome, refl, subst}
use Rattle.kmip_wire.specs.declared.kind.Kind.{Kind}
use Rattle.kmip_wire.specs.Tree.{Scalar as Leaf, Tree, scalar, structure, trees_of, integer, long_integer, big_integer, enumeration, boolean, text_string, byte_string, date_time, interval}
use Rattle.kmip_wire.specs.Parts.{tag_of}
use Rattle.kmip_wire.specs.declared.kind.Kind.TheVariants.{Integer, LongInteger, BigInteger, Enumeration, Boolean, TextString, ByteString, DateTime, Interval}
use Rattle.kmip_shape.specs.Val.{Val, Fields, Number, Text, Bytes, Truth, Record, Case}
use Rattle.kmip_shape.specs.Shape.{Shape, Cases, Scalar, OneOf, Rows, RowsOrBytes, Choice, Custom, NoCase, OuterValue, leaf_of, val_of, Entry, Found}
use Rattle.kmip_shape.specs.Trees.{item, leaf_tree, structure_of, one_tree, then_trees, bytes_or, byte_form, custom_trees, tree_in, field_trees}
use Rattle.kmip_shape.specs.Reads.{read_in, read_kind, read_entry}
use Rattle.kmip_shape.specs.Fits.{leaf_fits, is_choice}

pub none_some : {A : Type 0} {x : A} (P : Type 0) → None ≡ Some x → P
none_some P h = absurd (clash h)
  where
    clash : {A : Type 0} {x : A} → None ≡ Some x → ⊥
    clash h = cc

pub some_same : {A : Type 0} (x y : A) → Some x ≡ Some y → x ≡ y
some_same x y h = cc

pub item_some : (tag : ℕ) (o : Option Leaf) (t : Tree) → item tag o ≡ Some t → (leaf : Leaf)
    × (o ≡ Some leaf) × (scalar tag leaf ≡ t)
item_some tag None t h = none_some _ h
item_some tag (Some leaf) t h = (leaf, refl, some_same (scalar tag leaf) t h)

pub structure_some : (tag : ℕ) (o : Option (List Tree)) (t : Tree) → structure_of tag o ≡ Some t
    → (ts : List Tree) × (o ≡ Some ts) × (structure tag (trees_of ts) ≡ t)
structure_some tag None t h = none_some _ h
structure_some tag (Some ts) t h = (ts, refl, some_same (structure tag (trees_of ts)) t h)

pub one_some : (o : Option Tree) (ts : List Tree) → one_tree o ≡ Some ts → (t : Tree) × (o ≡ Some t) × (t ∷ [] ≡ ts)
one_some None ts h = none_some _ h
one_some (Some t) ts h = (t, refl, some_same (t ∷ []) ts h)

pub then_some : (a b : Option (List Tree)) (ts : List Tree) → then_trees a b ≡ Some ts
    → (x : List Tree) × (y : List Tree) × (a ≡ Some x) × (b ≡ Some y) × (x ++ y ≡ ts)
then_some None b ts h = none_some _ h
then_some (Some x) None ts h = none_some _ h
then_some (Some x) (Some y) ts h = (x, y, refl, refl, some_same (x ++ y) ts h)

pub cond_some : (b : Bool) (o : Option Tree) (t : Tree) → cond b o None ≡ Some t → (b ≡ true) × (o ≡ Some t)
cond_some true o t h = (refl, h)
cond_some false o t h = none_some _ h

pub found_some : (o : Option Found) (f : Found → Option Tree) (t : Tree)
    → elim o [ None ↦ None | Some c ↦ f c ] ≡ Some t → (c : Found) × (o ≡ Some c) × (f c ≡ Some t)
found_some None f t h = none_some _ h
found_some (Some c) f t h = (c, refl, h)

pub at_found : (o : Option Found) (c : Found) (P : Found → Type 0) → o ≡ Some c
    → elim o as (λ _. Type 0) [ None ↦ Unit {0} | Some d ↦ P d ] → P c
at_found o c P e h = subst (λ (q : Option Found). elim q as (λ _. Type 0) [ None ↦ Unit {0} | Some d ↦ P d ]) e h

pub at_found_fits : (o : Option Found) (c : Found) (P : Found → Type 0) → o ≡ Some c
    → elim o as (λ _. Type 0) [ None ↦ ⊥ | Some d ↦ P d ] → P c
at_found_fits o c P e h = subst (λ (q : Option Found). elim q as (λ _. Type 0) [ None ↦ ⊥ | Some d ↦ P d ]) e h

pub at_tree : (o : Option Tree) (t : Tree) (P : Tree → Type 0) → o ≡ Some t → IfSome o P → P t
at_tree o t P e h = subst (λ (q : Option Tree). IfSome q P) e h

-- a leaf is read by its kind, and gives its value back
pub kind_law : (k : Kind) (v : Val) (l : Leaf) (tag : ℕ) → leaf_of k v ≡ Some l
    → (read_kind k (scalar tag l) ≡ Some v) × (val_of l ≡ v)
kind_law Integer (Number z) l tag h =
    let e : integer z ≡ l = cc in subst
    (λ (m : Leaf). (read_kind Integer (scalar tag m) ≡ Some (Number z)) × (val_of m ≡ Number z)) e
    (refl, refl)
kind_law LongInteger (Number z) l tag h =
    let e : long_integer z ≡ l = cc in
    subst (λ (m : Leaf). (read_kind LongInteger (scalar tag m) ≡ Some (Number z))
    × (val_of m ≡ Number z)) e (refl, refl)
kind_law BigInteger (Bytes b) l tag h =
    let e : big_integer b ≡ l = cc in subst
    (λ (m : Leaf). (read_kind BigInteger (scalar tag m) ≡ Some (Bytes b)) × (val_of m ≡ Bytes b)) e
    (refl, refl)
kind_law Enumeration (Number (pos n)) l tag h =
    let e : enumeration n ≡ l = cc in subst
    (λ (m : Leaf). (read_kind Enumeration (scalar tag m) ≡ Some (Number (pos n)))
    × (val_of m ≡ Number (pos n))) e (refl, refl)
kind_law Boolean (Truth b) l tag h =
    let e : boolean b ≡ l = cc in subst
    (λ (m : Leaf). (read_kind Boolean (scalar tag m) ≡ Some (Truth b)) × (val_of m ≡ Truth b)) e
    (refl, refl)
kind_law TextString (Text s) l tag h =
    let e : text_string s ≡ l = cc in subst
    (λ (m : Leaf). (read_kind TextString (scalar tag m) ≡ Some (Text s)) × (val_of m ≡ Text s)) e
    (refl, refl)
kind_law ByteString (Bytes b) l tag h =
    let e : byte_string b ≡ l = cc in subst
    (λ (m : Leaf). (read_kind ByteString (scalar tag m) ≡ Some (Bytes b)) × (val_of m ≡ Bytes b)) e
    (refl, refl)
kind_law DateTime (Number (pos n)) l tag h =
    let e : date_time n ≡ l = cc in subst
    (λ (m : Leaf). (read_kind DateTime (scalar tag m) ≡ Some (Number (pos n)))
    × (val_of m ≡ Number (pos n))) e (refl, refl)
kind_law Interval (Number (pos n)) l tag h =
    let e : interval n ≡ l = cc in subst
    (λ (m : Leaf). (read_kind Interval (scalar tag m) ≡ Some (Number (pos n)))
    × (val_of m ≡ Number (pos n))) e (refl, refl)
kind_law _ _ l tag h = none_some _ h

pub entry_law : (entries : List Entry) (v : Val) (l : Leaf) (tag : ℕ) → leaf_fits (OneOf entries) v
    → leaf_of Enumeration v ≡ Some l → read_entry entries (scalar tag l) ≡ Some v
entry_law entries (Number (pos n)) l tag f h =
    let e : enumeration n ≡ l = cc in subst
    (λ (m : Leaf). read_entry entries (scalar tag m) ≡ Some (Number (pos n))) e (rw f refl)
entry_law entries _ l tag f h = none_some _ h

pub leaf_law : (shape : Shape) (v : Val) (around : Cases) (outer : OuterValue) (tag : ℕ) (t : Tree)
    → leaf_fits shape v → leaf_tree shape tag v ≡ Some t → read_in shape around outer t ≡ Some v
leaf_law (Scalar kind) v around outer tag t f h =
    let i = item_some tag (leaf_of kind v) t h in
    subst (λ (u : Tree). read_in (Scalar kind) around outer u ≡ Some v) i.2 (kind_law kind v i.0 tag i.1).0
leaf_law (OneOf entries) v around outer tag t f h =
    let i = item_some tag (leaf_of Enumeration v) t h in
    subst (λ (u : Tree). read_in (OneOf entries) around outer u ≡ Some v) i.2 (entry_law entries v i.0 tag f i.1)
leaf_law _ v around outer tag t f h = none_some _ h

pub leaf_tag : (shape : Shape) (v : Val) (tag : ℕ) (t : Tree) → leaf_tree shape tag v ≡ Some t → tag_of t ≡ tag
leaf_tag (Scalar kind) v tag t h =
    let i = item_some tag (leaf_of kind v) t h in subst (λ (u : Tree). tag_of u ≡ tag) i.2 refl
leaf_tag (OneOf entries) v tag t h =
    let i = item_some tag (leaf_of Enumeration v) t h in
    subst (λ (u : Tree). tag_of u ≡ tag) i.2 refl
leaf_tag _ v tag t h = none_some _ h

structure_tag : (tag : ℕ) (o : Option (List Tree)) (t : Tree) → structure_of tag o ≡ Some t → tag_of t ≡ tag
structure_tag tag o t h = let s = structure_some tag o t h in subst (λ (u : Tree). tag_of u ≡ tag) s.2 refl

bytes_tag : (tag : ℕ) (b : Option (List ℕ)) (o : Option (List Tree)) (t : Tree)
    → bytes_or tag b (structure_of tag o) ≡ Some t → tag_of t ≡ tag
bytes_tag tag None o t h = structure_tag tag o t h
bytes_tag tag (Some b) o t h =
    let e : scalar tag (byte_string b) ≡ t = some_same _ _ h in
    subst (λ (u : Tree). tag_of u ≡ tag) e refl

record_tag : (shape : Shape) (fields : Fields) (around : Cases) (tag : ℕ) (t : Tree)
    → tree_in (Record fields) around shape tag ≡ Some t → tag_of t ≡ tag
record_tag (Rows rows) fields around tag t h = structure_tag tag (field_trees fields NoCase rows) t h
record_tag (RowsOrBytes n rows) fields around tag t h =
    bytes_tag tag (byte_form n fields) (field_trees fields NoCase rows) t h
record_tag Custom fields around tag t h = structure_tag tag (custom_trees around fields) t h
record_tag _ fields around tag t h = none_some _ h

case_tag : (shape : Shape) (n : ℕ) (v : Val) (around : Cases) (tag : ℕ) (t : Tree)
    → is_choice shape ≡ false → tree_in (Case n v) around shape tag ≡ Some t → tag_of t ≡ tag
case_tag (Choice rule cases) n v around tag t e h = cc
case_tag _ n v around tag t e h = none_some _ h

-- but for choices an item stands under the tag that is asked for
pub tag_plain : (v : Val) (around : Cases) (shape : Shape) (tag : ℕ) (t : Tree)
    → is_choice shape ≡ false → tree_in v around shape tag ≡ Some t → tag_of t ≡ tag
tag_plain (Number z) around shape tag t e h = leaf_tag shape (Number z) tag t h
tag_plain (Text s) around shape tag t e h = leaf_tag shape (Text s) tag t h
tag_plain (Bytes b) around shape tag t e h = leaf_tag shape (Bytes b) tag t h
tag_plain (Truth b) around shape tag t e h = leaf_tag shape (Truth b) tag t h
tag_plain (Record fields) around shape tag t e h = record_tag shape fields around tag t h
tag_plain (Case n v) around shape tag t e h = case_tag shape n v around tag t e h
