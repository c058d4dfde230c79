-- Tests of each element of a list.
use Rattle.std.proofs.Common.{◌≡◌, ℕ, Bool, true, false, not, List, [], ◌∷◌, ◌++◌, take, drop, reverse, refl, ap, ◌∙◌}
use Rattle.std.specs.List.{list_all, concat}
use Rattle.std.proofs.lemmas.Bool.{and_parts, and_from}
use Rattle.std.proofs.lemmas.List.{take-append-drop, reverse-append}

pub by_test : {P : Type 0} (b : Bool) → (b ≡ true → P) → (b ≡ false → P) → P
by_test true t f = t refl
by_test false t f = f refl

pub false_by : (b : Bool) → (b ≡ true → ⊥) → b ≡ false
false_by true h = absurd (h refl)
false_by false h = refl

pub not_so : (b : Bool) → not b ≡ true → b ≡ false
not_so true h = absurd (cc)
not_so false h = refl

pub all_append : {X : Type 0} (p : X → Bool) (xs ys : List X) → list_all p xs ≡ true → list_all p ys ≡ true
    → list_all p (xs ++ ys) ≡ true
all_append p [] ys h k = k
all_append p (x ∷ xs) ys h k =
    let parts = and_parts (p x) (list_all p xs) h in
    and_from (p x) (list_all p (xs ++ ys)) parts.0 (all_append p xs ys parts.1 k)

pub all_split : {X : Type 0} (p : X → Bool) (xs ys : List X) → list_all p (xs ++ ys) ≡ true
    → (list_all p xs ≡ true) × (list_all p ys ≡ true)
all_split p [] ys h = (refl, h)
all_split p (x ∷ xs) ys h =
    let parts = and_parts (p x) (list_all p (xs ++ ys)) h in
    let rest = all_split p xs ys parts.1 in
    (and_from (p x) (list_all p xs) parts.0 rest.0, rest.1)

pub all_reverse : {X : Type 0} (p : X → Bool) (xs : List X) → list_all p xs ≡ true → list_all p (reverse xs) ≡ true
all_reverse p [] h = refl
all_reverse p (x ∷ xs) h =
    let parts = and_parts (p x) (list_all p xs) h in
    let last = and_from (p x) true parts.0 refl in
    ap (list_all p) (reverse-append (x ∷ []) xs)
    ∙ all_append p (reverse xs) (x ∷ []) (all_reverse p xs parts.1) last

pub all_take : {X : Type 0} (p : X → Bool) (n : ℕ) (xs : List X) → list_all p xs ≡ true → list_all p (take n xs) ≡ true
all_take p n xs h =
    let whole : list_all p (take n xs ++ drop n xs) ≡ true = ap (list_all p) (take-append-drop n xs) ∙ h in
    (all_split p (take n xs) (drop n xs) whole).0

pub all_drop : {X : Type 0} (p : X → Bool) (n : ℕ) (xs : List X) → list_all p xs ≡ true → list_all p (drop n xs) ≡ true
all_drop p n xs h =
    let whole : list_all p (take n xs ++ drop n xs) ≡ true = ap (list_all p) (take-append-drop n xs) ∙ h in
    (all_split p (take n xs) (drop n xs) whole).1

pub all_parts : (p : ℕ → Bool) (parts : List (List ℕ)) → list_all p (concat parts) ≡ true → list_all (list_all p) parts ≡ true
all_parts p [] h = refl
all_parts p (part ∷ parts) h =
    let both = all_split p part (concat parts) h in
    and_from (list_all p part) (list_all (list_all p) parts) both.0 (all_parts p parts both.1)

pub all_concat : (p : ℕ → Bool) (parts : List (List ℕ)) → list_all (list_all p) parts ≡ true → list_all p (concat parts) ≡ true
all_concat p [] h = refl
all_concat p (part ∷ parts) h =
    let both = and_parts (list_all p part) (list_all (list_all p) parts) h in
    all_append p part (concat parts) both.0 (all_concat p parts both.1)
