-- What is added to items in steps.
use Rattle.std.proofs.Common.{◌≡◌, ◌≤◌, ℕ, List, [], ◌∷◌, ◌++◌, length, map, drop, Option, Some, None, Bool, true, Result, IfOk, sym, subst, arith, slice_index_or}
use Rattle.std.proofs.lemmas.List.{append_assoc}
use Rattle.std.proofs.lemmas.Option.{none-some, same_Some}
use Rattle.std.proofs.lemmas.Result.{IfOk-weaker}
use Rattle.kmip_wire.specs.Tree.{Tree}
use Rattle.kmip_operation_words.specs.Items.{both, after, added, all_items}

-- where a first is added to items, and then the rest, both are added to them
pub then_added : (fits : Bool) (old middle new : List Tree) (first rest : Option (List Tree))
    → Some middle ≡ after old first → added fits new ≡ after middle rest
    → added fits new ≡ after old (both first rest)
then_added fits old middle new None rest first_is rest_is = absurd (none-some _ (sym first_is))
then_added fits old middle new (Some xs) None first_is rest_is = rest_is
then_added fits old middle new (Some xs) (Some ys) first_is rest_is =
    subst (λ all. added fits new ≡ Some all) (append_assoc old xs ys)
    (subst (λ items. added fits new ≡ Some (items ++ ys)) (same_Some _ _ first_is) rest_is)

-- the same of the first of a list and the rest of it
pub all_added : {A B E : Type 0} (r : Result Bool E) (view : A → B) (items : B → Option (List Tree))
    (xs : List A) (d : A) (fits : Bool) (old middle new : List Tree)
    → 1 ≤ length xs → fits ≡ true
    → added fits middle ≡ after old (items (view (slice_index_or xs 0 d)))
    → IfOk r (λ fits. added fits new ≡ after middle (all_items items (map view (drop 1 xs))))
    → IfOk r (λ fits. added fits new ≡ after old (all_items items (map view xs)))
all_added r view items [] d fits old middle new some fits_is first_is rest_is = absurd (omega arith)
all_added r view items (x ∷ xs) d fits old middle new some fits_is first_is rest_is =
    IfOk-weaker r _ _
    (λ fits is. then_added fits old middle new (items (view x)) (all_items items (map view xs))
    (rw fits_is at first_is) is) rest_is
