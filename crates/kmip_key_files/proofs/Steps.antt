-- What follows from a step that gave a value.
use Rattle.std.proofs.Common.{◌≡◌, Bool, true, false, ◌&&◌, List, [], ◌∷◌, cond, Option, Some, Result, Ok, Err, refl, sym, ap, ◌∙◌, ◌⊎◌, inl, inr}
use Rattle.std.specs.List.{find}

abbrev pub ok_in : (A E : Type 0) → A → Result A E
ok_in A E x = Ok x

abbrev pub err_in : (A E : Type 0) → E → Result A E
err_in A E e = Err e

pub same_ok : {A E : Type 0} (x y : A) → ok_in A E x ≡ Ok y → x ≡ y
same_ok x y h = cc

pub no_error : {A E : Type 0} (e : E) (x : A) → err_in A E e ≡ Ok x → ⊥
no_error e x h = cc

-- a test that had to hold
pub tested : {A E : Type 0} (b : Bool) (r : Result A E) (e : E) (x : A) → cond b r (Err e) ≡ Ok x
    → (b ≡ true) × (r ≡ Ok x)
tested true r e x h = (refl, h)
tested false r e x h = absurd (no_error e x h)

-- and one that had to fail
pub failed : {A E : Type 0} (b : Bool) (r : Result A E) (e : E) (x : A) → cond b (Err e) r ≡ Ok x → r ≡ Ok x
failed true r e x h = absurd (no_error e x h)
failed false r e x h = h

pub both_true : (a b : Bool) → (a && b) ≡ true → (a ≡ true) × (b ≡ true)
both_true true b h = (refl, h)
both_true false b h = absurd (cc)

pub no_both : (b : Bool) → b ≡ true → b ≡ false → ⊥
no_both b h k = cc

pub found_at : {A : Type 0} (b : Bool) (x y : A) (o : Option A) → cond b (Some x) o ≡ Some y
    → ((b ≡ true) × (x ≡ y)) ⊎ (o ≡ Some y)
found_at true x y o h = inl (refl, cc)
found_at false x y o h = inr h

-- what is found passes
pub passes : {A : Type 0} (p : A → Bool) (xs : List A) (x : A) → find p xs ≡ Some x → p x ≡ true
passes p [] x h = absurd (cc)
passes p (y ∷ ys) x h = elim (found_at (p y) y x (find p ys) h) [
  | inl (t, e) ↦ sym (ap p e) ∙ t
  | inr r ↦ passes p ys x r
]
