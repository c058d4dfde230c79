-- A list whose middle is written anew, seen by its front.
use Rattle.std.proofs.Common.{◌≡◌, ℕ, ◌+◌, ◌-◌, ◌≤◌, List, ◌++◌, length, take, drop, sym, ap, subst, ◌∙◌, arith}
use Rattle.std.proofs.Math.Seq.{take-append-add}
use Rattle.std.proofs.lemmas.List.{drop-take, length-take-le, take-take}

-- so many of a list and of what follows it
take_past : (xs ys : List ℕ) (k m : ℕ) → length xs ≡ k → take (k + m) (xs ++ ys) ≡ xs ++ take m ys
take_past xs ys k m same = subst (λ j. take (j + m) (xs ++ ys) ≡ xs ++ take m ys) same (take-append-add xs ys m)

written : (xs ys : List ℕ) (k m : ℕ) → k + (length ys + m) ≤ length xs
    → take (k + (length ys + m)) (take k xs ++ (ys ++ drop (k + length ys) xs))
    ≡ take k (take (k + (length ys + m)) xs)
    ++ (ys ++ drop (k + length ys) (take (k + (length ys + m)) xs))
written xs ys k m le =
    let j = length ys in
    let rest = drop (k + j) xs in
    let len : length (take k xs) ≡ k = length-take-le k xs (omega (arith, le)) in
    let sum : k + (j + m) ≡ (k + j) + m = omega arith in
    let left = take_past (take k xs) (ys ++ rest) k (j + m) len
    ∙ ap (λ zs. take k xs ++ zs) (take-append-add ys rest m) in
    let front : take k (take (k + (j + m)) xs) ≡ take k xs = take-take k (k + (j + m)) xs (omega arith) in
    let back : drop (k + j) (take (k + (j + m)) xs) ≡ take m rest =
    ap (λ n. drop (k + j) (take n xs)) sum ∙ drop-take (k + j) m xs in
    left ∙ sym (ap (λ zs. zs ++ (ys ++ drop (k + j) (take (k + (j + m)) xs))) front
    ∙ ap (λ zs. take k xs ++ (ys ++ zs)) back)

pub front_written : (xs ys : List ℕ) (k j n : ℕ) → k + length ys ≡ j → j ≤ n → n ≤ length xs
    → take n (take k xs ++ (ys ++ drop j xs)) ≡ take k (take n xs) ++ (ys ++ drop j (take n xs))
front_written xs ys k j n end le l =
    let m = n - (k + length ys) in
    let sum : k + (length ys + m) ≡ n = omega (arith, end, le) in
    let P : ℕ → ℕ → Type 0 = λ i o. take i (take k xs ++ (ys ++ drop o xs))
    ≡ take k (take i xs) ++ (ys ++ drop o (take i xs)) in
    subst (λ o. P n o) end (subst (λ i. P i (k + length ys)) sum (written xs ys k m (omega (arith, sum, l))))
