-- Elements of lists, by recursion.
use Rattle.std.proofs.Common.{◌≡◌, ℕ, zero, suc, ◌+◌, ◌<◌, Bool, true, false, ◌&&◌, ◌||◌, List, [], ◌∷◌, ◌++◌, length, get_or, ◌⊎◌, inl, inr, Contains, Some, find, cond, refl, sym, ap, ◌∙◌, subst, arith}
use Rattle.std.specs.List.{flat_map, list_any, list_all}
use Rattle.std.proofs.lemmas.Bool.{false≢true}

abbrev pub IsIn : {A : Type 0} → A → List A → Type 0
IsIn x [] = ⊥
IsIn x (y ∷ ys) = (x ≡ y) ⊎ IsIn x ys

at : {A : Type 0} (xs : List A) (x : A) (k : ℕ) → k < length xs → get_or xs k x ≡ x → IsIn x xs
at [] x k lt e = absurd (omega arith)
at (y ∷ ys) x zero lt e = inl (sym e)
at (y ∷ ys) x (suc k) lt e = inr (at ys x k (omega arith) e)

pub from_contains : {A : Type 0} (xs : List A) (x : A) → Contains xs x → IsIn x xs
from_contains xs x c = at xs x c.0 c.1 c.2

pub to_contains : {A : Type 0} (xs : List A) (x : A) → IsIn x xs → Contains xs x
to_contains [] x h = absurd h
to_contains (y ∷ ys) x (inl e) = (0, omega arith, sym e)
to_contains (y ∷ ys) x (inr h) =
    let c = to_contains ys x h in (suc c.0, omega (arith, c.1), c.2)

pub in_left : {A : Type 0} (xs ys : List A) (x : A) → IsIn x xs → IsIn x (xs ++ ys)
in_left [] ys x h = absurd h
in_left (z ∷ zs) ys x (inl e) = inl e
in_left (z ∷ zs) ys x (inr h) = inr (in_left zs ys x h)

pub in_right : {A : Type 0} (xs ys : List A) (x : A) → IsIn x ys → IsIn x (xs ++ ys)
in_right [] ys x h = h
in_right (z ∷ zs) ys x h = inr (in_right zs ys x h)

moved :
    {A B : Type 0} (f : A → List B) (x z : A) (y : B) → x ≡ z → IsIn y (f x) → IsIn y (f z)
moved {A} {B} f x z y e g = let P : A → Type 0 = λ w. IsIn y (f w) in subst P e g

pub in_flat_map :
    {A B : Type 0} (f : A → List B) (xs : List A) (x : A) (y : B)
    → IsIn x xs → IsIn y (f x) → IsIn y (flat_map f xs)
in_flat_map f [] x y h g = absurd h
in_flat_map f (z ∷ zs) x y (inl e) g =
    in_left (f z) (flat_map f zs) y (moved f x z y e g)
in_flat_map f (z ∷ zs) x y (inr h) g =
    in_right (f z) (flat_map f zs) y (in_flat_map f zs x y h g)

or_cases : (a b : Bool) → (a || b) ≡ true → (a ≡ true) ⊎ (b ≡ true)
or_cases true b e = inl refl
or_cases false b e = inr e

pub and_left : (a b : Bool) → (a && b) ≡ true → a ≡ true
and_left true b e = refl
and_left false b e = e

pub and_right : (a b : Bool) → (a && b) ≡ true → b ≡ true
and_right true b e = e
and_right false b e = absurd (false≢true e)

any_of :
    {A : Type 0} (p : A → Bool) (x : A) (xs : List A)
    → ((p x ≡ true) ⊎ (list_any p xs ≡ true))
    → (list_any p xs ≡ true → (y : A) × IsIn y xs × (p y ≡ true))
    → (y : A) × IsIn y (x ∷ xs) × (p y ≡ true)
any_of p x xs (inl h) more = (x, inl refl, h)
any_of p x xs (inr h) more = let r = more h in (r.0, inr r.1, r.2)

pub any_in :
    {A : Type 0} (p : A → Bool) (xs : List A) → list_any p xs ≡ true
    → (x : A) × IsIn x xs × (p x ≡ true)
any_in p [] e = absurd (false≢true e)
any_in p (x ∷ xs) e = any_of p x xs (or_cases (p x) (list_any p xs) e) (any_in p xs)

pub all_in : {A : Type 0} (p : A → Bool) (xs : List A) (x : A) → list_all p xs ≡ true → IsIn x xs → p x ≡ true
all_in p [] x e h = absurd h
all_in p (y ∷ ys) x e (inl h) = ap p h ∙ and_left (p y) (list_all p ys) e
all_in p (y ∷ ys) x e (inr h) = all_in p ys x (and_right (p y) (list_all p ys) e) h

found_of :
    {A : Type 0} (p : A → Bool) (y : A) (ys : List A) (x : A) (b : Bool) → p y ≡ b
    → cond b (Some y) (find p ys) ≡ Some x
    → (find p ys ≡ Some x → IsIn x ys × (p x ≡ true))
    → IsIn x (y ∷ ys) × (p x ≡ true)
found_of p y ys x true t e more =
    let same : x ≡ y = cc in (inl same, ap p same ∙ t)
found_of p y ys x false t e more = let r = more e in (inr r.0, r.1)

pub found_in : {A : Type 0} (p : A → Bool) (xs : List A) (x : A) → find p xs ≡ Some x → IsIn x xs × (p x ≡ true)
found_in p [] x e = absurd (cc)
found_in p (y ∷ ys) x e = found_of p y ys x (p y) refl e (found_in p ys x)
