-- What is read has at most as many levels as are allowed.
use Rattle.std.proofs.Common.{◌≡◌, ℕ, zero, suc, ◌+◌, ◌≤◌, Bool, true, false, List, codes, Option, Some, None, option_map, refl, subst, arith}
use Rattle.std.specs.Prelude.{Ok, Err, IsSomeAnd}
use Rattle.json.specs.Json as json
use Rattle.json.specs.Json.{Json, Items, document}
use Rattle.json.specs.Find.{as_array, is_null, get}
use Rattle.json.specs.Strict.{HasUniqueKeys}
use Rattle.kmip_wire.specs.declared.kind.Kind.{Kind}
use Rattle.kmip_wire.specs.declared.kind.Kind.TheVariants.{Structure, Integer, LongInteger, BigInteger, Enumeration, Boolean, TextString, ByteString, DateTime, Interval}
use Rattle.kmip_wire.specs.Tree.{Tree, Trees, Scalar, scalar, structure, none, more}
use Rattle.kmip_wire.specs.Bytes.{levels, levels_of_all}
use Rattle.kmip_tags.specs.Tags.{ATTRIBUTE_VALUE}
use Rattle.kmip_encodings.specs.Context.{place}
use Rattle.kmip_encodings.specs.Reading.{Read, within, trees_read, named_from, items_by, scalar_read, scalar_in, structure_or, empty_read, or_null, node_read, parts_read, known_read, known_members, parts_in, tag_from, kind_from, read_item, tree_of, ReadsText}

abbrev Bounds : ℕ → (ℕ → Json → Read Tree) → Type 0
Bounds n one = (named : ℕ) (j : Json) (t : Tree) → one named j ≡ Ok t → levels t ≤ n

within_ok : (index : ℕ) (read : Read Tree) (t : Tree) → within index read ≡ Ok t → read ≡ Ok t
within_ok index (Ok x) t e = e
within_ok index (Err m) t e = absurd (cc)

trees_ok : (a : Read Tree) (b : Read Trees) (ts : Trees) → trees_read a b ≡ Ok ts
    → (t : Tree) × (us : Trees) × (a ≡ Ok t) × (b ≡ Ok us) × (more t us ≡ ts)
trees_ok (Ok t) (Ok us) ts e = (t, us, refl, refl, cc)
trees_ok (Ok t) (Err m) ts e = absurd (cc)
trees_ok (Err m) b ts e = absurd (cc)

items_bounded : (n : ℕ) (one : ℕ → Json → Read Tree) → Bounds n one → (index named : ℕ) (js : Items) (ts : Trees)
    → items_by one index named js ≡ Ok ts → levels_of_all ts ≤ n
items_bounded n one h index named json.no_items ts e =
    let same : none ≡ ts = cc in
    subst (λ (x : Trees). levels_of_all x ≤ n) same (omega arith)
items_bounded n one h index named (json.item j js) ts e =
    let later : ℕ = named_from named (one named j) in
    let p = trees_ok (within index (one named j)) (items_by one (index + 1) later js) ts e in
    let first : levels p.0 ≤ n = h named j p.0 (within_ok index (one named j) p.0 p.2) in
    let others : levels_of_all p.1 ≤ n = items_bounded n one h (index + 1) later js p.1 p.3 in
    subst (λ (x : Trees). levels_of_all x ≤ n) p.4 (omega arith)

empty_bounded : (n tag : ℕ) (null : Bool) (t : Tree) → empty_read tag null ≡ Ok t → levels t ≤ suc n
empty_bounded n tag true t e =
    let same : structure tag none ≡ t = cc in
    subst (λ (x : Tree). levels x ≤ suc n) same (omega arith)
empty_bounded n tag false t e = absurd (cc)

array_bounded : (n : ℕ) (one : ℕ → Json → Read Tree) → Bounds n one → (tag : ℕ) (null : Bool) (o : Option Items) (t : Tree)
    → structure_or tag null (option_map (items_by one 0 ATTRIBUTE_VALUE) o) ≡ Ok t → levels t ≤ suc n
array_bounded n one h tag null None t e = empty_bounded n tag null t e
array_bounded n one h tag null (Some js) t e = go (items_by one 0 ATTRIBUTE_VALUE js) refl e
  where
    go : (read : Read Trees) → items_by one 0 ATTRIBUTE_VALUE js ≡ read → structure_or tag null (Some read) ≡ Ok t → levels t ≤ suc n
    go (Ok ts) is k =
        let same : structure tag ts ≡ t = cc in
        let inside : levels_of_all ts ≤ n = items_bounded n one h 0 ATTRIBUTE_VALUE js ts is in
        subst (λ (x : Tree). levels x ≤ suc n) same (omega arith)
    go (Err m) is k = absurd (cc)

scalar_bounded : (n tag : ℕ) (kind : Kind) (o : Option Scalar) (t : Tree) → scalar_read tag kind o ≡ Ok t
    → levels t ≤ suc n
scalar_bounded n tag kind None t e = absurd (cc)
scalar_bounded n tag kind (Some s) t e =
    let same : scalar tag s ≡ t = cc in
    subst (λ (x : Tree). levels x ≤ suc n) same (omega arith)

node_bounded : (n : ℕ) (one : ℕ → Json → Read Tree) → Bounds n one → (named tag : ℕ) (kind : Kind) (value : Json) (t : Tree)
    → node_read one named tag kind value ≡ Ok t → levels t ≤ suc n
node_bounded n one h named tag Structure value t e = array_bounded n one h tag (is_null value) (as_array value) t e
node_bounded n one h named tag Integer value t e =
    scalar_bounded n tag Integer (scalar_in (place named tag) Integer value) t e
node_bounded n one h named tag LongInteger value t e =
    scalar_bounded n tag LongInteger (scalar_in (place named tag) LongInteger value) t e
node_bounded n one h named tag BigInteger value t e =
    scalar_bounded n tag BigInteger (scalar_in (place named tag) BigInteger value) t e
node_bounded n one h named tag Enumeration value t e =
    scalar_bounded n tag Enumeration (scalar_in (place named tag) Enumeration value) t e
node_bounded n one h named tag Boolean value t e =
    scalar_bounded n tag Boolean (scalar_in (place named tag) Boolean value) t e
node_bounded n one h named tag TextString value t e =
    scalar_bounded n tag TextString (scalar_in (place named tag) TextString value) t e
node_bounded n one h named tag ByteString value t e =
    scalar_bounded n tag ByteString (scalar_in (place named tag) ByteString value) t e
node_bounded n one h named tag DateTime value t e =
    scalar_bounded n tag DateTime (scalar_in (place named tag) DateTime value) t e
node_bounded n one h named tag Interval value t e =
    scalar_bounded n tag Interval (scalar_in (place named tag) Interval value) t e

parts_bounded : (n : ℕ) (one : ℕ → Json → Read Tree) → Bounds n one → (named : ℕ) (tag : Option ℕ) (kind : Option Kind)
    (value : Option Json) (t : Tree) → parts_read one named tag kind value ≡ Ok t → levels t ≤ suc n
parts_bounded n one h named None kind value t e = absurd (cc)
parts_bounded n one h named (Some tag) None value t e = absurd (cc)
parts_bounded n one h named (Some tag) (Some kind) value t e = node_bounded n one h named tag kind (or_null value) t e

known_ok : (known : Option Bool) (read : Read Tree) (t : Tree) → known_read known read ≡ Ok t → read ≡ Ok t
known_ok (Some true) read t e = e
known_ok (Some false) read t e = absurd (cc)
known_ok None read t e = absurd (cc)

read_bounded : (n : ℕ) → Bounds n (read_item n)
unfolding read_item
read_bounded zero named j t e = absurd (cc)
read_bounded (suc n) named j t e =
    parts_bounded n (read_item n) (read_bounded n) named (tag_from (get (codes "tag") j)) (kind_from (get (codes "type") j))
    (get (codes "value") j) t
    (known_ok (known_members j) (parts_in (read_item n) named j) t e)

pub text_bounded : (t : Tree) (text : List ℕ) → ReadsText (Ok t) text → levels t ≤ 64
unfolding tree_of
text_bounded t text h = go (document text) h
  where
    go : (o : Option Json) → IsSomeAnd o (λ j. HasUniqueKeys j × (tree_of j ≡ Ok t)) → levels t ≤ 64
    go (Some j) k = read_bounded 64 ATTRIBUTE_VALUE j t k.1
    go None k = absurd k
