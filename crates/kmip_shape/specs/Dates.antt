-- A Date-Time held as a signed number of seconds (KMIP 1.0, 9.1.1.4).
use Rattle.std.specs.Prelude.{◌+◌, ◌-◌, ◌^◌, ◌<◌, ◌≤◌, ℤ, pos, negsuc, suc, Bool, true, false, cond, nat_lt, ◌≡◌, refl}
use Rattle.std.proofs.Common.{ap, sym, ◌∙◌, arith, lt-ltb, le-ltb, ltb-true, ltb-false}
use Rattle.kmip_shape.specs.Val.{Val, Number}
use Rattle.kmip_shape.specs.Same.{same_number}

-- The unsigned number of the same 64 bits. A number outside the signed range, which no `i64` is, is
-- moved past 2^64, so that no two numbers become one.
abbrev pub date_number : ℤ → ℤ
date_number (pos n) = cond (nat_lt n (2 ^ 63)) (pos n) (pos (n + 2 ^ 63))
date_number (negsuc n) = cond (nat_lt n (2 ^ 63)) (pos (2 ^ 64 - suc n)) (negsuc n)

abbrev pub date_val : ℤ → Val
date_val z = Number (date_number z)

abbrev back : ℤ → ℤ
back (pos n) = cond (nat_lt n (2 ^ 63)) (pos n)
    (cond (nat_lt n (2 ^ 64)) (negsuc (2 ^ 64 - suc n)) (pos (n - 2 ^ 63)))
back (negsuc n) = negsuc n

back_number : (z : ℤ) → back (date_number z) ≡ z
back_number (pos n) = go (nat_lt n (2 ^ 63)) refl
  where
    go : (b : Bool) → nat_lt n (2 ^ 63) ≡ b → back (cond b (pos n) (pos (n + 2 ^ 63))) ≡ pos n
    go true e = rw e refl
    go false e =
        let l : 2 ^ 63 ≤ n = ltb-false n (2 ^ 63) e in
        let m : n + 2 ^ 63 - 2 ^ 63 ≡ n = omega arith in
        rw (
          le-ltb (n + 2 ^ 63) (2 ^ 63) (omega arith),
          le-ltb (n + 2 ^ 63) (2 ^ 64) (omega arith),
          m,
        ) refl
back_number (negsuc n) = go (nat_lt n (2 ^ 63)) refl
  where
    go : (b : Bool) → nat_lt n (2 ^ 63) ≡ b →
        back (cond b (pos (2 ^ 64 - suc n)) (negsuc n)) ≡ negsuc n
    go true e =
        let l : n < 2 ^ 63 = ltb-true n (2 ^ 63) e in
        let m : 2 ^ 64 - suc (2 ^ 64 - suc n) ≡ n = omega arith in
        rw (
          le-ltb (2 ^ 64 - suc n) (2 ^ 63) (omega arith),
          lt-ltb (2 ^ 64 - suc n) (2 ^ 64) (omega arith),
          m,
        ) refl
    go false e = refl

pub date_same : (x y : ℤ) → date_val x ≡ date_val y → x ≡ y
date_same x y h = sym (back_number x) ∙ (ap back (same_number h) ∙ back_number y)
