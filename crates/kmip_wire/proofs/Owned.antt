-- The tree that is made of a view is the view's tree.
use Rattle.std.proofs.Common.{◌≡◌, ℕ, ◌+◌, ◌≤◌, true, List, [], ◌∷◌, ◌++◌, Some, None, refl, sym, ap, ◌∙◌, arith}
use Rattle.std.specs.Option.{is_some, option_map}
use Rattle.std.specs.Str.{is_utf8, IsUtf8}
use Rattle.std.proofs.lemmas.Str.{IsUtf8-from_is_utf8}
use Rattle.std.proofs.lemmas.Option.{same_Some, none-some, cond_some}
use Rattle.kmip_wire.specs.declared.kind.Kind.TheVariants.{TextString}
use Rattle.kmip_wire.proofs.Computed.{some_of}
use Rattle.kmip_wire.specs.declared.kind.Kind.{Kind}
use Rattle.kmip_wire.specs.declared.tree.Node.{Node}
use Rattle.kmip_wire.specs.declared.tree.Node.TheVariants as nodes
use Rattle.kmip_wire.specs.Tree.{Tree, Trees, Scalar, scalar, structure, none, more, list_of, trees_of, text_string}
use Rattle.kmip_wire.specs.Sees.{tree_of_node}
use Rattle.kmip_wire.specs.Sizes.{tree_size, trees_size}
use Rattle.kmip_wire.specs.Head.{value_of}
use Rattle.kmip_wire.specs.Parses.{Parses}
use Rattle.kmip_wire.specs.Reading.{scalar_at}
use Rattle.kmip_wire.specs.Parts.{tag_of, kind_of_tree, children_in}
use Rattle.kmip_wire.specs.Whole.{is_tree, the_tree}
use Rattle.kmip_wire.proofs.Values.{scalar_at-complete}
use Rattle.kmip_wire.proofs.Views.{opened}

trees_of-list_of : (ts : Trees) → trees_of (list_of ts) ≡ ts
trees_of-list_of none = refl
trees_of-list_of (more t ts) = ap (more t) (trees_of-list_of ts)

pub children_smaller : (t : Tree) (ts : List Tree) → children_in t ≡ Some ts
    → trees_size (trees_of ts) + 1 ≤ tree_size t
children_smaller (scalar tag s) ts e = absurd (none-some ts e)
children_smaller (structure tag us) ts e =
    omega (
      arith,
      ap trees_size (sym (trees_of-list_of us) ∙ ap trees_of
          (same_Some (list_of us) ts e)),
    )

pub is_structure : (t : Tree) (ts : List Tree) → children_in t ≡ Some ts → structure (tag_of t) (trees_of ts) ≡ t
is_structure (scalar tag s) ts e = absurd (none-some ts e)
is_structure (structure tag us) ts e =
    ap (structure tag) (ap trees_of (sym (same_Some (list_of us) ts e)) ∙ trees_of-list_of us)

scalar_value : (t : Tree) (b : List ℕ) → Parses t 1 b → children_in t ≡ None → (s : Scalar)
    × (t ≡ scalar (tag_of t) s) × (scalar_at (kind_of_tree t) (value_of b) ≡ Some s)
scalar_value (scalar tag s) b h e = (s, refl, scalar_at-complete s (value_of b) h.value)
scalar_value (structure tag ts) b h e = absurd (none-some (list_of ts) (sym e))

pub is_scalar : (b : List ℕ) → is_tree b ≡ true → children_in (the_tree b) ≡ None → (s : Scalar)
    × (the_tree b ≡ scalar (tag_of (the_tree b)) s)
    × (scalar_at (kind_of_tree (the_tree b)) (value_of b) ≡ Some s)
is_scalar b h e = scalar_value (the_tree b) b (opened b h) e

pub a_scalar : (b v : List ℕ) (k : Kind) → is_tree b ≡ true → children_in (the_tree b) ≡ None
    → k ≡ kind_of_tree (the_tree b) → v ≡ value_of b → is_some (scalar_at k v) ≡ true
a_scalar b v k h e kind value = ap (λ j. is_some (scalar_at j v)) kind
    ∙ ap (λ w. is_some (scalar_at (kind_of_tree (the_tree b)) w)) value
    ∙ ap is_some (is_scalar b h e).2

retagged : ℕ → Tree → Tree
retagged n (scalar tag s) = scalar n s
retagged n (structure tag ts) = structure n ts

retag : (n : ℕ) (node : Node) → tree_of_node n node ≡ retagged n (tree_of_node 0 node)
unfolding retagged
retag n (nodes.Structure x) = refl
retag n (nodes.Integer x) = refl
retag n (nodes.LongInteger x) = refl
retag n (nodes.BigInteger x) = refl
retag n (nodes.Enumeration x) = refl
retag n (nodes.Boolean x) = refl
retag n (nodes.TextString x) = refl
retag n (nodes.ByteString x) = refl
retag n (nodes.DateTime x) = refl
retag n (nodes.Interval x) = refl

pub made_scalar : (b v : List ℕ) (k : Kind) (tag : ℕ) (node : Node) → is_tree b ≡ true
    → children_in (the_tree b) ≡ None → k ≡ kind_of_tree (the_tree b) → v ≡ value_of b
    → tag ≡ tag_of (the_tree b)
    → option_map (scalar 0) (scalar_at k v) ≡ Some (tree_of_node 0 node) → tree_of_node tag node ≡ the_tree b
unfolding retagged
made_scalar b v k tag node h e kind value t made =
    let s = is_scalar b h e in
    let at : scalar_at k v ≡ Some s.0 =
    ap (λ j. scalar_at j v) kind ∙ ap (λ w. scalar_at (kind_of_tree (the_tree b)) w) value
    ∙ s.2 in
    let same : scalar 0 s.0 ≡ tree_of_node 0 node =
    same_Some (scalar 0 s.0) (tree_of_node 0 node)
    (ap (option_map (scalar 0)) (sym at) ∙ made) in
    retag tag node ∙ ap (retagged tag) (sym same) ∙ ap (λ n. scalar n s.0) t ∙ sym s.1

pub made_structure : (b : List ℕ) (tag : ℕ) (ts us : List Tree) → children_in (the_tree b) ≡ Some us
    → tag ≡ tag_of (the_tree b) → ts ≡ us → structure tag (trees_of ts) ≡ the_tree b
made_structure b tag ts us e t same =
    ap (λ n. structure n (trees_of ts)) t
    ∙ ap (λ x. structure (tag_of (the_tree b)) (trees_of x)) same ∙ is_structure (the_tree b) us e

suffix_smaller : (xs ys : List Tree) → trees_size (trees_of ys) ≤ trees_size (trees_of (xs ++ ys))
suffix_smaller [] ys = omega arith
suffix_smaller (x ∷ xs) ys = omega (arith, suffix_smaller xs ys)

pub next_smaller : (done all now rest : List Tree) (t : Tree) → done ++ now ≡ all → now ≡ t ∷ rest
    → tree_size t + 1 ≤ trees_size (trees_of all)
next_smaller done all now rest t e n =
    omega (
      arith,
      suffix_smaller done now,
      ap (λ ts. trees_size (trees_of ts)) e,
      ap (λ ts. trees_size (trees_of ts)) n,
    )

pub text_only : (v : List ℕ) (k : Kind) → k ≡ TextString → is_some (scalar_at k v) ≡ true → IsUtf8 v
text_only v k e h =
    let s = some_of (scalar_at TextString v) (ap (λ j. is_some (scalar_at j v)) (sym e) ∙ h) in
    IsUtf8-from_is_utf8 v (cond_some (is_utf8 v) (text_string v) s.0 s.1).0
