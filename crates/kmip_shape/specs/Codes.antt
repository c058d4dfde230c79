-- An injective code of values, by which a proof tells them apart.
use Rattle.std.specs.Prelude.{ℕ, ◌≡◌, refl}
use Rattle.std.proofs.Common.{ap, ◌∙◌}
use base.Stored.{Gv, gnil, gcons, Coded, coded_ℕ, coded_ℤ, coded_bool, coded_list}
use Rattle.kmip_shape.specs.Val.{Val, Vals, Field, Fields, Number, Text, Bytes, Truth, Record, Case, Absent, One, Many, NoField, AndField, NoVal, AndVal}

abbrev mutual
  pub val_code : Val → Gv
  val_code (Number z) = gcons gnil (coded_ℤ.code z)
  val_code (Text s) = gcons (gcons gnil gnil) ((coded_list coded_ℕ).code s)
  val_code (Bytes b) = gcons (gcons gnil (gcons gnil gnil)) ((coded_list coded_ℕ).code b)
  val_code (Truth b) = gcons (gcons (gcons gnil gnil) gnil) (coded_bool.code b)
  val_code (Record fields) = gcons (gcons (gcons gnil gnil) (gcons gnil gnil)) (fields_code fields)
  val_code (Case n val) =
      gcons (gcons (gcons gnil (gcons gnil gnil)) gnil) (gcons (coded_ℕ.code n) (val_code val))

  pub fields_code : Fields → Gv
  fields_code NoField = gnil
  fields_code (AndField field fields) = gcons (field_code field) (fields_code fields)

  pub field_code : Field → Gv
  field_code Absent = gnil
  field_code (One val) = gcons gnil (val_code val)
  field_code (Many vals) = gcons (gcons gnil gnil) (vals_code vals)

  pub vals_code : Vals → Gv
  vals_code NoVal = gnil
  vals_code (AndVal val vals) = gcons (val_code val) (vals_code vals)

mutual
  pub val_inj : (v w : Val) → val_code v ≡ val_code w → v ≡ w
  val_inj (Number x) (Number y) e = let f : coded_ℤ.code x ≡ coded_ℤ.code y = cc in ap Number (coded_ℤ.inj x y f)
  val_inj (Text x) (Text y) e =
      let f : (coded_list coded_ℕ).code x ≡ (coded_list coded_ℕ).code y = cc in
      ap Text ((coded_list coded_ℕ).inj x y f)
  val_inj (Bytes x) (Bytes y) e =
      let f : (coded_list coded_ℕ).code x ≡ (coded_list coded_ℕ).code y = cc in
      ap Bytes ((coded_list coded_ℕ).inj x y f)
  val_inj (Truth x) (Truth y) e = let f : coded_bool.code x ≡ coded_bool.code y = cc in ap Truth (coded_bool.inj x y f)
  val_inj (Record x) (Record y) e = let f : fields_code x ≡ fields_code y = cc in ap Record (fields_inj x y f)
  val_inj (Case m v) (Case n w) e =
      let f : coded_ℕ.code m ≡ coded_ℕ.code n = cc in
      let g : val_code v ≡ val_code w = cc in
      ap (λ (k : ℕ). Case k v) (coded_ℕ.inj m n f) ∙ ap (Case n) (val_inj v w g)
  val_inj _ _ e = cc

  fields_inj : (x y : Fields) → fields_code x ≡ fields_code y → x ≡ y
  fields_inj NoField NoField e = refl
  fields_inj (AndField a x) (AndField b y) e =
      let f : field_code a ≡ field_code b = cc in
      let g : fields_code x ≡ fields_code y = cc in
      ap (λ (c : Field). AndField c x) (field_inj a b f) ∙ ap (AndField b) (fields_inj x y g)
  fields_inj _ _ e = cc

  field_inj : (x y : Field) → field_code x ≡ field_code y → x ≡ y
  field_inj Absent Absent e = refl
  field_inj (One x) (One y) e = let f : val_code x ≡ val_code y = cc in ap One (val_inj x y f)
  field_inj (Many x) (Many y) e = let f : vals_code x ≡ vals_code y = cc in ap Many (vals_inj x y f)
  field_inj _ _ e = cc

  pub vals_inj : (x y : Vals) → vals_code x ≡ vals_code y → x ≡ y
  vals_inj NoVal NoVal e = refl
  vals_inj (AndVal a x) (AndVal b y) e =
      let f : val_code a ≡ val_code b = cc in
      let g : vals_code x ≡ vals_code y = cc in
      ap (λ (c : Val). AndVal c x) (val_inj a b f) ∙ ap (AndVal b) (vals_inj x y g)
  vals_inj _ _ e = cc

abbrev pub coded_val : Coded Val
coded_val = record { code = val_code; inj = val_inj }

abbrev pub coded_vals : Coded Vals
coded_vals = record { code = vals_code; inj = vals_inj }
