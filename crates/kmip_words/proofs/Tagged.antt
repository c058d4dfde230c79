-- Items by their tags.
use Rattle.std.proofs.Common.{◌≡◌, ◌==◌, ℕ, suc, List, [], ◌∷◌, length, Bool, true, false, not, Option, Some, None, option_map, is_some, refl, sym, ◌∙◌, arith}
use Rattle.std.proofs.lemmas.Bool.Decides.{nat_tests}
use Rattle.std.specs.List.{slice_get}
use Rattle.kmip_wire.specs.Tree.{Tree}
use Rattle.kmip_client.specs.Untyped.{sole}

-- the first of some items is the one, where there is no second
pub sole_first : (trees : List Tree) → slice_get trees 1 ≡ None → slice_get trees 0 ≡ sole trees
sole_first [] none = refl
sole_first (tree ∷ []) none = refl
sole_first (tree ∷ next ∷ trees) none = absurd (cc)

-- and where there is a second, there is no one
pub no_sole : (trees : List Tree) (second : Tree) → slice_get trees 1 ≡ Some second → None ≡ sole trees
no_sole [] second some = refl
no_sole (tree ∷ []) second some = absurd (cc)
no_sole (tree ∷ next ∷ trees) second some = refl

not_none : (n : ℕ) → false ≡ (suc n == 0)
not_none n = grind (arith, nat_tests)

-- there is no first of none
pub none_first : {A : Type 0} (v : A → Tree) (found : Option A) (trees : List Tree) (is_none : Bool)
    → option_map v found ≡ slice_get trees 0 → is_some found ≡ not is_none
    → is_none ≡ (length trees == 0)
none_first v (Some a) [] b is test = absurd (cc)
none_first v None [] true is test = refl
none_first v None [] false is test = absurd (cc)
none_first v (Some a) (tree ∷ trees) true is test = absurd (cc)
none_first v (Some a) (tree ∷ trees) false is test = not_none (length trees)
none_first v None (tree ∷ trees) b is test = absurd (cc)
