-- Printing an item and its children.
use Rattle.std.proofs.Common.{◌≡◌, refl, sym, ◌∙◌, ap, arith, ℕ, ◌+◌, ◌≤◌, List, [], ◌∷◌, ◌++◌, Option, Some, None, option_map}
use Rattle.std.specs.Prelude.{Result, Ok, Err, IfOk, is_ok, if◌then◌else◌}
use Rattle.std.proofs.lemmas.Option.{none-some, same_Some}
use Rattle.std.proofs.lemmas.List.{append_assoc, append-nil}
use Rattle.kmip_wire.specs.Tree.{Tree, Trees, scalar, structure, none, more, trees_of, list_of}
use Rattle.kmip_wire.specs.Sizes.{tree_size, trees_size}
use Rattle.kmip_wire.specs.Parts.{tag_of, scalar_in, children_in}
use Rattle.kmip_diag.specs.Skeleton.{skeleton, skeletons, mark_of}
use Rattle.kmip_diag.specs.Printed.{printed, printed_all, printed_tag}

trees_of-list_of : (ts : Trees) → trees_of (list_of ts) ≡ ts
trees_of-list_of none = refl
trees_of-list_of (more t ts) = ap (more t) (trees_of-list_of ts)

pub children_smaller : (t : Tree) (ts : List Tree) → children_in t ≡ Some ts
    → trees_size (trees_of ts) + 1 ≤ tree_size t
children_smaller (scalar tag s) ts e = absurd (none-some ts e)
children_smaller (structure tag us) ts e =
    omega (
      arith,
      ap trees_size (sym (trees_of-list_of us) ∙ ap trees_of
          (same_Some (list_of us) ts e)),
    )

pub child_smaller : (now rest : List Tree) (t : Tree) → now ≡ t ∷ rest
    → (tree_size t + 1 ≤ trees_size (trees_of now))
    × (trees_size (trees_of rest) ≤ trees_size (trees_of now))
child_smaller now rest t e =
    let size = ap (λ ts. trees_size (trees_of ts)) e in (omega (arith, size), omega (arith, size))

pub structure_printed : (p : Option ℕ) (t : Tree) (tag : ℕ) (ts : List Tree)
    (old tagged begun inside new : List ℕ) → Some ts ≡ children_in t → tag ≡ tag_of t
    → tagged ≡ old ++ printed_tag p tag → begun ≡ tagged ++ (91 ∷ [])
    → inside ≡ begun ++ printed_all p (skeletons (trees_of ts)) → new ≡ inside ++ (93 ∷ [])
    → new ≡ old ++ printed p (skeleton t)
structure_printed p (scalar a s) tag ts old tagged begun inside new m e f g h i = absurd (none-some ts (sym m))
structure_printed p (structure a us) tag ts old tagged begun inside new m e f g h i =
    let same : trees_of ts ≡ us = ap trees_of (same_Some ts (list_of us) m) ∙ trees_of-list_of us
    in let all = printed_all p (skeletons us)
    in i
    ∙ ap (λ x. x ++ (93 ∷ [])) (h ∙ ap (λ x. begun ++ printed_all p (skeletons x)) same ∙ ap
    (λ x. x ++ all) (g ∙ ap (λ x. x ++ (91 ∷ [])) (f ∙ ap (λ n. old ++ printed_tag p n) e)))
    ∙ append_assoc ((old ++ printed_tag p a) ++ (91 ∷ [])) all (93 ∷ [])
    ∙ append_assoc (old ++ printed_tag p a) (91 ∷ []) (all ++ (93 ∷ []))
    ∙ append_assoc old (printed_tag p a) (91 ∷ (all ++ (93 ∷ [])))

pub no_item : {A : Type 0} (t : Tree) → None ≡ option_map mark_of (scalar_in t) → None ≡ children_in t → A
no_item (scalar a s) m e = absurd (none-some (mark_of s) m)
no_item (structure a ts) m e = absurd (none-some (list_of ts) e)

pub child_printed : (p : Option ℕ) (whole text after : List ℕ) (now rest : List Tree) (t : Tree)
    → whole ≡ text ++ printed_all p (skeletons (trees_of now)) → now ≡ t ∷ rest
    → after ≡ text ++ printed p (skeleton t) → whole ≡ after ++ printed_all p (skeletons (trees_of rest))
child_printed p whole text after now rest t e f g =
    e ∙ ap (λ ts. text ++ printed_all p (skeletons (trees_of ts))) f
    ∙ sym (append_assoc text (printed p (skeleton t))
    (printed_all p (skeletons (trees_of rest))))
    ∙ ap (λ x. x ++ printed_all p (skeletons (trees_of rest))) (sym g)

pub all_printed : (p : Option ℕ) (whole text : List ℕ) (now : List Tree)
    → whole ≡ text ++ printed_all p (skeletons (trees_of now)) → now ≡ [] → text ≡ whole
all_printed p whole text now e f = sym
    (e ∙ ap (λ ts. text ++ printed_all p (skeletons (trees_of ts))) f ∙ append-nil text)

-- what was pushed last
pub at_ok : {A E : Type 0} (r : Result A E) (new pushed old want : List ℕ)
    → new ≡ (if is_ok r then pushed else old) → (new ≡ pushed → new ≡ want)
    → IfOk r (λ _. new ≡ want)
at_ok (Ok x) new pushed old want e f = f e
at_ok (Err x) new pushed old want e f = tt
