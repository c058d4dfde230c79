-- Lengths below 2 ^ 32, summed from either side.
use Rattle.std.proofs.Common.{◌≡◌, ℕ, ◌+◌, ◌^◌, ◌<◌, Bool, true, false, cond, nat_lt, List, [], ◌∷◌, Option, Some, None, refl, sym, arith, add_assoc, ltb-false, le-ltb, ◌≤◌}
use Rattle.kmip_shape.specs.Val.{Vals, NoVal, AndVal}
use Rattle.kmip_shape.specs.Shape.{Shape, Cases, NoCase}
use Rattle.kmip_shape.specs.Writes.{plus_len, sum_len, list_len, len_in, plains_len, maybe_len, plain_leaf}
use Rattle.std.proofs.lemmas.Grind.{common_steps}

pub plus_zero : (a b : Option ℕ) → plus_len (Some 0) (plus_len a b) ≡ plus_len a b
plus_zero None b = refl
plus_zero (Some a) None = refl
plus_zero (Some a) (Some b) = go (nat_lt (a + b) (2 ^ 32)) refl
  where
    go : (q : Bool) → nat_lt (a + b) (2 ^ 32) ≡ q
        → plus_len (Some 0) (cond q (Some (a + b)) None) ≡ cond q (Some (a + b)) None
    go true e = let z : 0 + (a + b) ≡ a + b = omega arith in rw (z, e) refl
    go false e = refl

pub plus_assoc : (a b c : Option ℕ) → plus_len a (plus_len b c) ≡ plus_len (plus_len a b) c
plus_assoc None b c = refl
plus_assoc (Some a) None c = refl
plus_assoc (Some a) (Some b) None = go (nat_lt (a + b) (2 ^ 32))
  where
    go : (q : Bool) → None ≡ plus_len (cond q (Some (a + b)) None) None
    go true = refl
    go false = refl
plus_assoc (Some a) (Some b) (Some c) = go (nat_lt (b + c) (2 ^ 32)) (nat_lt (a + b) (2 ^ 32)) refl refl
  where
    go : (p q : Bool) → nat_lt (b + c) (2 ^ 32) ≡ p → nat_lt (a + b) (2 ^ 32) ≡ q
        → plus_len (Some a) (cond p (Some (b + c)) None)
        ≡ plus_len (cond q (Some (a + b)) None) (Some c)
    go true true e f = rw (sym (add_assoc a b c)) refl
    go true false e f =
        let l : 2 ^ 32 ≤ a + b = ltb-false (a + b) (2 ^ 32) f in
        let m : 2 ^ 32 ≤ a + (b + c) = omega arith in
        rw (le-ltb (a + (b + c)) (2 ^ 32) m) refl
    go false true e f =
        let l : 2 ^ 32 ≤ b + c = ltb-false (b + c) (2 ^ 32) e in
        let m : 2 ^ 32 ≤ (a + b) + c = omega arith in
        rw (le-ltb ((a + b) + c) (2 ^ 32) m) refl
    go false false e f = refl

pub sum_len_zero : (lens : List (Option ℕ)) → plus_len (Some 0) (sum_len lens) ≡ sum_len lens
sum_len_zero [] = refl
sum_len_zero (len ∷ lens) = plus_zero len (sum_len lens)

pub list_len_zero : (vs : Vals) (shape : Shape) → plus_len (Some 0) (list_len vs shape) ≡ list_len vs shape
list_len_zero NoVal shape = refl
list_len_zero (AndVal v vs) shape = plus_zero (len_in v NoCase shape) (list_len vs shape)

pub plus_end : (n : ℕ) → n < 2 ^ 32 → plus_len (Some n) (Some 0) ≡ Some n
plus_end n h =
    let z : n + 0 ≡ n = omega arith in
    let e : nat_lt n (2 ^ 32) ≡ true = grind (arith, common_steps) in rw (z, e) refl

pub plains_len_zero : (around : Cases) (vs : Vals) → plus_len (Some 0) (plains_len around vs) ≡ plains_len around vs
plains_len_zero around NoVal = refl
plains_len_zero around (AndVal v vs) = plus_zero (maybe_len (plain_leaf around v)) (plains_len around vs)
