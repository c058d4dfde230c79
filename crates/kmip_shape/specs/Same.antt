use Rattle.std.specs.Prelude.{ℕ, ℤ, pos, Bool, List, [], ◌∷◌, Option, Some, None, ◌≡◌, refl}
use Rattle.std.proofs.Common.{ap, ◌∙◌}
use Rattle.kmip_shape.specs.Val.{Val, Field, Fields, Number, Text, Bytes, Truth, Record, Case, One, Many, NoField, AndField}
use Rattle.kmip_shape.specs.Writes.{optional, vals, optional_list}

-- Equal records have equal fields, row by row.

pub same_record : {fs gs : Fields} → Record fs ≡ Record gs → fs ≡ gs
same_record h = cc

pub same_rows : {f g : Field} {fs gs : Fields} → AndField f fs ≡ AndField g gs → (f ≡ g) × (fs ≡ gs)
same_rows h = (cc, cc)

pub same_case : {m n : ℕ} {v w : Val} → Case m v ≡ Case n w → (m ≡ n) × (v ≡ w)
same_case h = (cc, cc)

pub same_text : {x y : List ℕ} → Text x ≡ Text y → x ≡ y
same_text h = cc

pub same_bytes : {x y : List ℕ} → Bytes x ≡ Bytes y → x ≡ y
same_bytes h = cc

pub same_truth : {x y : Bool} → Truth x ≡ Truth y → x ≡ y
same_truth h = cc

pub same_number : {x y : ℤ} → Number x ≡ Number y → x ≡ y
same_number h = cc

pub same_unsigned : {x y : ℕ} → Number (pos x) ≡ Number (pos y) → x ≡ y
same_unsigned h = cc

-- values of the same meaning are equal
abbrev pub IsFaithful : {T V : Type 0} → (T → V) → Type 0
IsFaithful {T} {V} val = (x y : T) → val x ≡ val y → x ≡ y

pub same_one : {T : Type 0} (val : T → Val) → IsFaithful val → (x y : T) →
    One (val x) ≡ One (val y) → x ≡ y
same_one val f x y h = f x y cc

pub same_optional : {T : Type 0} (val : T → Val) → IsFaithful val → (x y : Option T) →
    optional val x ≡ optional val y → x ≡ y
same_optional val f None None h = refl
same_optional val f None (Some y) h = cc
same_optional val f (Some x) None h = cc
same_optional val f (Some x) (Some y) h = ap Some (f x y cc)

same_vals : {T : Type 0} (val : T → Val) → IsFaithful val → (xs ys : List T) →
    vals val xs ≡ vals val ys → xs ≡ ys
same_vals val f [] [] h = refl
same_vals val f [] (y ∷ ys) h = cc
same_vals val f (x ∷ xs) [] h = cc
same_vals val f (x ∷ xs) (y ∷ ys) h =
    let e : val x ≡ val y = cc in
    let g : vals val xs ≡ vals val ys = cc in
    ap (λ z. z ∷ xs) (f x y e) ∙ ap (λ zs. y ∷ zs) (same_vals val f xs ys g)

pub same_list : {T : Type 0} (val : T → Val) → IsFaithful val → (xs ys : List T) →
    Many (vals val xs) ≡ Many (vals val ys) → xs ≡ ys
same_list val f xs ys h = same_vals val f xs ys cc

pub same_optional_list : {T : Type 0} (val : T → Val) → IsFaithful val → (x y : Option (List T)) →
    optional_list val x ≡ optional_list val y → x ≡ y
same_optional_list val f None None h = refl
same_optional_list val f None (Some ys) h = cc
same_optional_list val f (Some xs) None h = cc
same_optional_list val f (Some xs) (Some ys) h = ap Some (same_vals val f xs ys cc)

-- The fields of a record as nested pairs, row by row: `and_row (one_row name_same) (and_row
-- (optional_row index_same) no_row)`.

pub one_row : {T : Type 0} {val : T → Val} → IsFaithful val → IsFaithful (λ (x : T). One (val x))
one_row {T} {val} f x y h = same_one val f x y h

pub optional_row : {T : Type 0} {val : T → Val} → IsFaithful val →
    IsFaithful (λ (x : Option T). optional val x)
optional_row {T} {val} f x y h = same_optional val f x y h

pub list_row : {T : Type 0} {val : T → Val} → IsFaithful val →
    IsFaithful (λ (x : List T). Many (vals val x))
list_row {T} {val} f x y h = same_list val f x y h

pub optional_list_row : {T : Type 0} {val : T → Val} → IsFaithful val →
    IsFaithful (λ (x : Option (List T)). optional_list val x)
optional_list_row {T} {val} f x y h = same_optional_list val f x y h

pub and_row : {A B : Type 0} {field : A → Field} {fields : B → Fields} → IsFaithful field →
    IsFaithful fields → IsFaithful (λ (t : A × B). AndField (field t.0) (fields t.1))
and_row {A} {B} {field} {fields} f g x y h =
    let r = same_rows h in
    ap (λ (a : A). (a, x.1)) (f x.0 y.0 r.0) ∙ ap (λ (b : B). (y.0, b)) (g x.1 y.1 r.1)

pub no_row : IsFaithful (λ (t : Unit {0}). NoField)
no_row x y h = refl
