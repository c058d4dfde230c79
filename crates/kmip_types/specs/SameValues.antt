-- Equality of values as a Boolean.
use Rattle.std.specs.Prelude.{◌≡◌, refl, Bool, true, false, ◌&&◌, List, nat_eq, bytes_eq}
use Rattle.std.specs.Ordering.{int_eq}
use Rattle.std.specs.Bool.{Decides}
use Rattle.std.specs.Cmp.{IsEquivalence, IsPartialEquivalence, partial_equiv_from_equiv, decided, signed_Decides, unsigned_Decides, booleans_Decides}
use Rattle.std.specs.Cmp.Derive.{both_true}
use Rattle.std.proofs.Common.{ap, ◌∙◌}
use Rattle.std.proofs.lemmas.Bool.{false≢true}
use Rattle.std.proofs.lemmas.Slice.Eq.{bytes_eq-Decides}
use mathlib.Core.Bool.{beq}
use Rattle.kmip_shape.specs.Val.{Val, Vals, Field, Fields, Number, Text, Bytes, Truth, Record, Case, Absent, One, Many, NoField, AndField, NoVal, AndVal, vals_of}
use Rattle.kmip_types.specs.declared.attribute_value.AttributeValue.{AttributeValue}
use Rattle.kmip_types.specs.AttributeValues.{attribute_value_val, attribute_value_same, same_vals_of}

abbrev mutual
  pub same_val : Val → Val → Bool
  same_val (Number x) (Number y) = int_eq x y
  same_val (Text x) (Text y) = bytes_eq x y
  same_val (Bytes x) (Bytes y) = bytes_eq x y
  same_val (Truth x) (Truth y) = beq x y
  same_val (Record xs) (Record ys) = same_fields xs ys
  same_val (Case n x) (Case m y) = nat_eq n m && same_val x y
  same_val _ _ = false

  pub same_fields : Fields → Fields → Bool
  same_fields NoField NoField = true
  same_fields (AndField x xs) (AndField y ys) = same_field x y && same_fields xs ys
  same_fields _ _ = false

  pub same_field : Field → Field → Bool
  same_field Absent Absent = true
  same_field (One x) (One y) = same_val x y
  same_field (Many xs) (Many ys) = same_vals xs ys
  same_field _ _ = false

  pub same_vals : Vals → Vals → Bool
  same_vals NoVal NoVal = true
  same_vals (AndVal x xs) (AndVal y ys) = same_val x y && same_vals xs ys
  same_vals _ _ = false

both : {P Q : Type 0} (a b : Bool) → (a ≡ true → P) → (b ≡ true → Q) → (a && b) ≡ true → P × Q
both true true f g e = (f refl, g refl)
both true false f g e = absurd (false≢true e)
both false true f g e = absurd (false≢true e)
both false false f g e = absurd (false≢true e)

mutual
  pub same_val-sound : (x y : Val) → same_val x y ≡ true → x ≡ y
  same_val-sound (Number x) (Number y) p = ap Number ((signed_Decides x y).0 p)
  same_val-sound (Text x) (Text y) p = ap Text ((bytes_eq-Decides x y).0 p)
  same_val-sound (Bytes x) (Bytes y) p = ap Bytes ((bytes_eq-Decides x y).0 p)
  same_val-sound (Truth x) (Truth y) p = ap Truth ((booleans_Decides x y).0 p)
  same_val-sound (Record xs) (Record ys) p = ap Record (same_fields-sound xs ys p)
  same_val-sound (Case n x) (Case m y) p =
      let q = both (nat_eq n m) (same_val x y) (unsigned_Decides n m).0 (same_val-sound x y) p in
      λ i. Case (q.0 i) (q.1 i)
  same_val-sound _ _ p = absurd (false≢true p)

  pub same_fields-sound : (xs ys : Fields) → same_fields xs ys ≡ true → xs ≡ ys
  same_fields-sound NoField NoField p = refl
  same_fields-sound (AndField x xs) (AndField y ys) p =
      let q = both (same_field x y) (same_fields xs ys) (same_field-sound x y)
      (same_fields-sound xs ys) p in λ i. AndField (q.0 i) (q.1 i)
  same_fields-sound _ _ p = absurd (false≢true p)

  pub same_field-sound : (x y : Field) → same_field x y ≡ true → x ≡ y
  same_field-sound Absent Absent p = refl
  same_field-sound (One x) (One y) p = ap One (same_val-sound x y p)
  same_field-sound (Many xs) (Many ys) p = ap Many (same_vals-sound xs ys p)
  same_field-sound _ _ p = absurd (false≢true p)

  pub same_vals-sound : (xs ys : Vals) → same_vals xs ys ≡ true → xs ≡ ys
  same_vals-sound NoVal NoVal p = refl
  same_vals-sound (AndVal x xs) (AndVal y ys) p =
      let q = both (same_val x y) (same_vals xs ys) (same_val-sound x y)
      (same_vals-sound xs ys) p in λ i. AndVal (q.0 i) (q.1 i)
  same_vals-sound _ _ p = absurd (false≢true p)

mutual
  pub same_val-refl : (x : Val) → same_val x x ≡ true
  same_val-refl (Number x) = (signed_Decides x x).1 refl
  same_val-refl (Text x) = (bytes_eq-Decides x x).1 refl
  same_val-refl (Bytes x) = (bytes_eq-Decides x x).1 refl
  same_val-refl (Truth x) = (booleans_Decides x x).1 refl
  same_val-refl (Record xs) = same_fields-refl xs
  same_val-refl (Case n x) = both_true ((unsigned_Decides n n).1 refl) (same_val-refl x)

  pub same_fields-refl : (xs : Fields) → same_fields xs xs ≡ true
  same_fields-refl NoField = refl
  same_fields-refl (AndField x xs) = both_true (same_field-refl x) (same_fields-refl xs)

  pub same_field-refl : (x : Field) → same_field x x ≡ true
  same_field-refl Absent = refl
  same_field-refl (One x) = same_val-refl x
  same_field-refl (Many xs) = same_vals-refl xs

  pub same_vals-refl : (xs : Vals) → same_vals xs xs ≡ true
  same_vals-refl NoVal = refl
  same_vals-refl (AndVal x xs) = both_true (same_val-refl x) (same_vals-refl xs)

pub same_val-Decides : (x y : Val) → Decides (same_val x y) (x ≡ y)
same_val-Decides x y = (same_val-sound x y, λ p. Prim.rw p (same_val-refl y))

-- of two attribute values
abbrev pub same_value : AttributeValue → AttributeValue → Bool
same_value x y = same_val (attribute_value_val x) (attribute_value_val y)

pub same_value-Decides : (x y : AttributeValue) → Decides (same_value x y) (x ≡ y)
same_value-Decides x y = (
  λ p. attribute_value_same x y (same_val-sound (attribute_value_val x) (attribute_value_val y) p),
  λ p. ap (λ (z : AttributeValue). same_value z y) p ∙ same_val-refl (attribute_value_val y),
)

pub same_value-equiv : IsEquivalence same_value
same_value-equiv = decided same_value same_value-Decides

pub same_value-per : IsPartialEquivalence same_value
same_value-per = partial_equiv_from_equiv same_value-equiv

-- of two lists of members
abbrev pub same_members : List Val → List Val → Bool
same_members xs ys = same_vals (vals_of xs) (vals_of ys)

pub same_members-Decides : (xs ys : List Val) → Decides (same_members xs ys) (xs ≡ ys)
same_members-Decides xs ys = (
  λ p. same_vals_of xs ys (same_vals-sound (vals_of xs) (vals_of ys) p),
  λ p. ap (λ (zs : List Val). same_members zs ys) p ∙ same_vals-refl (vals_of ys),
)

pub same_members-equiv : IsEquivalence same_members
same_members-equiv = decided same_members same_members-Decides

pub same_members-per : IsPartialEquivalence same_members
same_members-per = partial_equiv_from_equiv same_members-equiv
