-- `==` of a record says exactly whether two records are equal where that of each field does: row by row along the
-- record's table, since records with equal values are equal (IsFaithful).
use Rattle.std.proofs.Common.{◌≡◌, ◌&&◌, ℕ, Bool, true, false, List, Option, Some, None, refl, ap, subst}
use Rattle.std.specs.Bool.{Decides}
use Rattle.std.specs.Cmp.{IsEquivalence}
use Rattle.std.specs.Cmp.Lexicographic.{pointwise}
use Rattle.std.specs.Option.{option_eq}
use Rattle.std.proofs.lemmas.Slice.Eq.{slice_eq-Decides}
use Rattle.kmip_shape.specs.Val.{Val, Field, Fields, Number, Text, Bytes, Truth, Record, Case, One, Many, AndField, NoField}
use Rattle.kmip_shape.specs.Writes.{optional, optional_list, vals}
use Rattle.kmip_shape.specs.Same.{IsFaithful, same_number, same_text, same_bytes, same_truth, same_one, same_optional, same_list, same_optional_list}

both : (a b : Bool) → (a && b) ≡ true → (a ≡ true) × (b ≡ true)
both true b h = (refl, h)
both false b h = absurd (cc)

-- a row, and those below it
pub and_row : {a b : Bool} {f g : Field} {fs gs : Fields} → Decides a (f ≡ g) → Decides b (fs ≡ gs)
    → Decides (a && b) (AndField f fs ≡ AndField g gs)
and_row {a} {b} {f} {g} {fs} {gs} d e = (
  λ p. let q = both a b p in λ i. AndField (d.0 q.0 i) (e.0 q.1 i),
  λ p. let h : f ≡ g = cc in let k : fs ≡ gs = cc in λ i. d.1 h i && e.1 k i,
)

-- the last row
pub last_row : {a : Bool} {f g : Field} → Decides a (f ≡ g)
    → Decides a (AndField f NoField ≡ AndField g NoField)
last_row {a} {f} {g} d = (
  λ p. ap (λ (z : Field). AndField z NoField) (d.0 p),
  λ p. let h : f ≡ g = cc in d.1 h,
)

-- the last row, beside a test of what no value shows
pub last_row_and : {a e : Bool} {f g : Field} → Decides a (f ≡ g) → e ≡ true
    → Decides (a && e) (AndField f NoField ≡ AndField g NoField)
last_row_and {a} {e} {f} {g} d t = (
  λ p. (last_row d).0 (both a e p).0,
  λ p. let h : a ≡ true = (last_row d).1 p in λ i. h i && t i,
)

pub record_of : {b : Bool} {fs gs : Fields} → Decides b (fs ≡ gs) → Decides b (Record fs ≡ Record gs)
record_of {b} {fs} {gs} d = (λ p. ap Record (d.0 p), λ p. let h : fs ≡ gs = cc in d.1 h)

-- two values of one variant
pub case_of : {b : Bool} {n : ℕ} {v w : Val} → Decides b (v ≡ w) → Decides b (Case n v ≡ Case n w)
case_of {b} {n} {v} {w} d = (λ p. ap (Case n) (d.0 p), λ p. let h : v ≡ w = cc in d.1 h)

-- a table, and a variant whose fields are one
pub ruleset table = (and_row, last_row, record_of, case_of)

-- The field of a type whose own test is exact: a value, one or none, any number, and a list or none.

pub exact_of : {A B : Type 0} {E : A → A → Bool} (f : A → B) → ((x y : A) → f x ≡ f y → x ≡ y)
    → ((x y : A) → Decides (E x y) (x ≡ y)) → (x y : A) → Decides (E x y) (f x ≡ f y)
exact_of f same d x y = (λ p. ap f ((d x y).0 p), λ p. (d x y).1 (same x y p))

pub value_of : {T : Type 0} {E : T → T → Bool} {val : T → Val} → IsFaithful val
    → ((x y : T) → Decides (E x y) (x ≡ y)) → (x y : T) → Decides (E x y) (val x ≡ val y)
value_of {T} {E} {val} same d = exact_of val same d

pub one_of : {T : Type 0} {E : T → T → Bool} {val : T → Val} → IsFaithful val
    → ((x y : T) → Decides (E x y) (x ≡ y)) → (x y : T) → Decides (E x y) (One (val x) ≡ One (val y))
one_of {T} {E} {val} same d = exact_of (λ (x : T). One (val x)) (same_one val same) d

options : {A : Type 0} {E : A → A → Bool} → ((x y : A) → Decides (E x y) (x ≡ y)) → (x y : Option A)
    → Decides (option_eq E x y) (x ≡ y)
options d None None = (λ p. refl, λ p. refl)
options d None (Some y) = (λ p. absurd (cc), λ p. absurd (cc))
options d (Some x) None = (λ p. absurd (cc), λ p. absurd (cc))
options d (Some x) (Some y) = (λ p. ap Some ((d x y).0 p), λ p. let h : x ≡ y = cc in (d x y).1 h)

lists : {A : Type 0} {E : A → A → Bool} → ((x y : A) → Decides (E x y) (x ≡ y)) → (x y : List A)
    → Decides (pointwise E x y) (x ≡ y)
lists {A} {E} d x y = slice_eq-Decides d x y (pointwise E x y) refl

pub optional_of : {T : Type 0} {E : T → T → Bool} {val : T → Val} → IsFaithful val
    → ((x y : T) → Decides (E x y) (x ≡ y)) → (x y : Option T)
    → Decides (option_eq E x y) (optional val x ≡ optional val y)
optional_of {T} {E} {val} same d = exact_of (optional val) (same_optional val same) (options d)

pub list_of : {T : Type 0} {E : T → T → Bool} {val : T → Val} → IsFaithful val
    → ((x y : T) → Decides (E x y) (x ≡ y)) → (x y : List T)
    → Decides (pointwise E x y) (Many (vals val x) ≡ Many (vals val y))
list_of {T} {E} {val} same d = exact_of (λ (x : List T). Many (vals val x)) (same_list val same) (lists d)

pub optional_list_of : {T : Type 0} {E : T → T → Bool} {val : T → Val} → IsFaithful val
    → ((x y : T) → Decides (E x y) (x ≡ y)) → (x y : Option (List T))
    → Decides (option_eq (pointwise E) x y) (optional_list val x ≡ optional_list val y)
optional_list_of {T} {E} {val} same d =
    exact_of (optional_list val) (same_optional_list val same) (options (lists d))

-- from the values back to what they are the values of
pub by_value : {T : Type 0} {E : T → T → Bool} {val : T → Val} → IsFaithful val
    → ((x y : T) → Decides (E x y) (val x ≡ val y)) → (x y : T) → Decides (E x y) (x ≡ y)
by_value {T} {E} {val} same d x y = (λ p. same x y ((d x y).0 p), λ p. (d x y).1 (ap val p))

-- a test that is an equivalence, and that equal values alone meet: for a choice of many variants
pub by_cases : {T : Type 0} {E : T → T → Bool} → ((x y : T) → E x y ≡ true → x ≡ y) → IsEquivalence E
    → (x y : T) → Decides (E x y) (x ≡ y)
by_cases {T} {E} sound laws x y = (sound x y, λ p. subst (λ (z : T). E x z ≡ true) p (laws.refl x))

pub passed : {b : Bool} {v w : Val} → b ≡ true → Decides b (v ≡ w) → v ≡ w
passed p d = d.0 p

pub numbers : IsFaithful Number
numbers x y h = same_number h

pub texts : IsFaithful Text
texts x y h = same_text h

pub byte_strings : IsFaithful Bytes
byte_strings x y h = same_bytes h

pub truths : IsFaithful Truth
truths x y h = same_truth h
