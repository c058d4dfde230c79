-- The name of a curve of the table is short, and so is a point.
use Rattle.std.proofs.Common.{◌≡◌, ℕ, ◌+◌, ◌<◌, ◌^◌, ◌==◌, Bool, true, false, ◌&&◌, ◌||◌, List, [], ◌∷◌, length, Option, Some, None, option_map, IfSome, refl, sym, ap, ◌∙◌, inl, inr, arith, if◌then◌else◌}
use Rattle.std.specs.Prelude.{nat_lt}
use Rattle.std.specs.List.{find, list_all}
use Rattle.std.proofs.lemmas.Bool.{eqb-true}
use borrow.Author.Tests.{ltb-true}
use Rattle.kmip_der.specs.Curve.{Curve, curve_with}
use Rattle.kmip_der.specs.CurveTable.{curves}
use Rattle.kmip_der.specs.Keys.{field_len, is_point}
use Rattle.kmip_key_files.proofs.Steps.{both_true, found_at}

-- what holds of all holds of what is found
of_found : {A : Type 0} (p q : A → Bool) (xs : List A) (x : A) → list_all q xs ≡ true → find p xs ≡ Some x
    → q x ≡ true
of_found p q [] x a h = absurd (cc)
of_found p q (y ∷ ys) x a h =
    let b = both_true (q y) (list_all q ys) a in
    elim (found_at (p y) y x (find p ys) h) [
      | inl (t, e) ↦ sym (ap q e) ∙ b.0
      | inr r ↦ of_found p q ys x b.1 r
    ]

abbrev has_short_name : Curve → Bool
has_short_name curve = nat_lt (length curve.name) 128

pub short_name : (number : ℕ) (curve : Curve) → curve_with curves number ≡ Some curve → length curve.name < 128
short_name number curve h =
    ltb-true _ _ (of_found (λ c. c.number == number) has_short_name curves curve refl h)

pub named_short : {X : Type 0} (number : ℕ) (o : Option X) (f : X → Curve) → option_map f o ≡ curve_with curves number
    → IfSome o (λ x. length (f x).name < 128)
named_short number None f h = tt
named_short number (Some x) f h = short_name number (f x) (sym h)

point_len : (four : Bool) (a n f : ℕ) → (if four then n == f + f else (a == 2 || a == 3) && n == f) ≡ true
    → f < 9000 → n < 20000
point_len true a n f h b = let e = eqb-true n (f + f) h in omega arith
point_len false a n f h b =
    let e : n ≡ f = eqb-true n f (both_true (a == 2 || a == 3) (n == f) h).1 in omega arith

pub short_point : (curve : Curve) (point : List ℕ) → is_point curve point ≡ true → curve.bits < 65536
    → length point < 2 ^ 24
short_point curve [] h b = absurd (cc)
short_point curve (a ∷ rest) h b =
    let f : field_len curve.bits < 9000 = omega arith in
    let n : length rest < 20000 = point_len (a == 4) a (length rest) (field_len curve.bits) h f in
    omega arith
