-- Listing an item and its children.
use Rattle.std.proofs.Common.{◌≡◌, refl, sym, ◌∙◌, ap, arith, ℕ, ◌+◌, ◌≤◌, ◌<◌, List, ◌++◌, length, get_or, drop, Some}
use Rattle.std.specs.Prelude.{codes}
use Rattle.std.proofs.lemmas.Option.{none-some, same_Some}
use Rattle.std.proofs.lemmas.List.{append_assoc, at_drop_more}
use Rattle.kmip_wire.specs.declared.kind.Kind.{Kind}
use Rattle.kmip_wire.specs.declared.kind.Kind.TheVariants.{Structure}
use Rattle.kmip_wire.specs.Tree.{Tree, Trees, scalar, structure, none, more, trees_of, list_of}
use Rattle.kmip_wire.specs.Sizes.{tree_size, trees_size}
use Rattle.kmip_wire.specs.Parts.{tag_of, kind_of_tree, children_in}
use Rattle.kmip_tags.specs.Tags as tags
use Rattle.kmip_encodings.specs.Sizes.{size_of, sizes_of}
use Rattle.kmip_web.specs.Listing.{head_text, listed, all_listed, escaped_char, escaped}

trees_of-list_of : (ts : Trees) → trees_of (list_of ts) ≡ ts
trees_of-list_of none = refl
trees_of-list_of (more t ts) = ap (more t) (trees_of-list_of ts)

pub children_smaller : (t : Tree) (ts : List Tree) → children_in t ≡ Some ts
    → trees_size (trees_of ts) + 1 ≤ tree_size t
children_smaller (scalar tag s) ts e = absurd (none-some ts e)
children_smaller (structure tag us) ts e =
    omega (
      arith,
      ap trees_size (sym (trees_of-list_of us) ∙ ap trees_of
          (same_Some (list_of us) ts e)),
    )

pub children_sized : (t : Tree) (ts : List Tree) → children_in t ≡ Some ts → size_of t ≡ 8 + sizes_of (trees_of ts)
children_sized (scalar tag s) ts e = absurd (none-some ts e)
children_sized (structure tag us) ts e =
    ap (λ x. 8 + sizes_of x) (sym (trees_of-list_of us) ∙ ap trees_of (same_Some (list_of us) ts e))

pub structure_listed : (at named : ℕ) (t : Tree) (tag : ℕ) (kind : Kind) (ts : List Tree)
    (old headed begun inside new : List ℕ) → Some ts ≡ children_in t → tag ≡ tag_of t
    → kind ≡ kind_of_tree t
    → headed ≡ old ++ head_text at tag kind → begun ≡ headed ++ codes "\n"
    → inside ≡ begun ++ all_listed (at + 8) tags.ATTRIBUTE_VALUE (trees_of ts) → new ≡ inside ++ codes "]\n"
    → new ≡ old ++ listed at named t
structure_listed at named (scalar a s) tag kind ts old headed begun inside new m e k f g h i = absurd (none-some ts (sym m))
structure_listed at named (structure a us) tag kind ts old headed begun inside new m e k f g h i =
    let same : trees_of ts ≡ us = ap trees_of (same_Some ts (list_of us) m) ∙ trees_of-list_of us
    in let head = head_text at a Structure
    in let all = all_listed (at + 8) tags.ATTRIBUTE_VALUE us
    in i
    ∙ ap (λ x. x ++ codes "]\n") (h ∙ ap (λ x. begun ++ all_listed (at + 8) tags.ATTRIBUTE_VALUE x) same ∙ ap
    (λ x. x ++ all) (g ∙ ap (λ x. x ++ codes "\n")
    (f ∙ ap (λ n. old ++ head_text at n kind) e ∙ ap (λ n. old ++ head_text at a n) k)))
    ∙ append_assoc ((old ++ head) ++ codes "\n") all (codes "]\n")
    ∙ append_assoc (old ++ head) (codes "\n") (all ++ codes "]\n")
    ∙ append_assoc old head (codes "\n" ++ (all ++ codes "]\n"))

-- the characters from the n-th on, where the n-th is c
pub escaped_more : (cs : List ℕ) (n c : ℕ) → (n < length cs) × (c ≡ get_or cs n c)
    → escaped (drop n cs) ≡ escaped_char c ++ escaped (drop (n + 1) cs)
escaped_more cs n c h = at_drop_more escaped cs n c h.0
    ∙ ap (λ x. escaped_char x ++ escaped (drop (n + 1) cs)) (sym h.1)
