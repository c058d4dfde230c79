-- A response whose batch items are not one.
use Rattle.std.proofs.Common.{◌≡◌, suc, ◌∷◌, [], List, length, refl, ap, Bool, true, false, Err}
use Rattle.kmip_shape.specs.Val.{Val}
use Rattle.kmip_shape.specs.Writes.{vals}
use Rattle.kmip_enums.specs.declared.operation.Operation.{Operation}
use Rattle.kmip_client.specs.declared.error.Error.TheVariants.{ServerError}
use Rattle.kmip_client.specs.Check.{check_items, count_of, count_text}

pub count_vals : {T : Type 0} (val : T → Val) (xs : List T) → count_of (vals val xs) ≡ length xs
count_vals val [] = refl
count_vals val (x ∷ xs) = ap suc (count_vals val xs)

pub not_told : {T : Type 0} (operation : Operation) (val : T → Val) (xs : List T)
    → check_items operation false (vals val xs) ≡ Err (ServerError (count_text (length xs)))
not_told operation val xs = ap (λ n. Err (ServerError (count_text n))) (count_vals val xs)

pub not_one : {T : Type 0} (operation : Operation) (told : Bool) (val : T → Val) (xs : List T)
    → (length xs ≡ 1 → ⊥) → check_items operation told (vals val xs)
    ≡ Err (ServerError (count_text (length xs)))
not_one operation false val xs h = not_told operation val xs
not_one operation true val [] h = refl
not_one operation true val (x ∷ []) h = absurd (h refl)
not_one operation true val (x ∷ y ∷ xs) h = ap (λ n. Err (ServerError (count_text n))) (count_vals val (x ∷ y ∷ xs))
