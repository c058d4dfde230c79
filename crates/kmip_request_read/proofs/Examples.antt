-- Which payloads are matched, on worked examples: each line computes.
use Rattle.std.proofs.Common.{◌≡◌, ℕ, false, true, nat_eq, List, [], ◌∷◌, Some, None, refl, eq-eqb}
use Rattle.std.specs.Prelude.{codes}
use Rattle.kmip_shape.specs.Val.{Text, Case, vals_of, Record, AndField, NoField, Many}
use Rattle.kmip_shape.proofs.Parts.{none_some, some_same}
use Rattle.kmip_enums.specs.declared.object_type.ObjectType.TheVariants as objects
use Rattle.kmip_types.specs.declared.attribute_value.AttributeValue.{AttributeValue}
use Rattle.kmip_types.specs.declared.attribute_value.AttributeValue.TheVariants.{ObjectGroup, Structure, TextString}
use Rattle.kmip_types.specs.TheKeyFormatType.{KeyFormatType}
use Rattle.kmip_types.specs.TheKeyFormatType.TheVariants as formats
use Rattle.kmip_types.specs.TheKeyMaterial.{KeyMaterial}
use Rattle.kmip_types.specs.TheKeyMaterial.TheVariants as materials
use Rattle.kmip_request_objects.specs.Tables.{attribute, template_attribute, key_block, key_value}
use Rattle.kmip_request.specs.TheManagedObject.TheVariants.{SymmetricKey}
use Rattle.kmip_request.specs.declared.payload.RequestPayload.{RequestPayload}
use Rattle.kmip_request.specs.declared.payload.RequestPayload.TheVariants.{AddAttribute, GetAttributes, Register}
use Rattle.kmip_request_read.specs.Matched.{IsMatched}

-- another case is selected
other_case : (m n : ℕ) → nat_eq m n ≡ false → Some m ≡ Some n → ⊥
other_case m n e h = let k : nat_eq m n ≡ true = eq-eqb m n (some_same m n h) in cc

-- ---- attributes

abbrev adds : List ℕ → AttributeValue → RequestPayload
adds name value = AddAttribute None (record { 0 = record { 0 = name }; 1 = None; 2 = value })

group_under_its_name : IsMatched (adds (codes "Object Group") (ObjectGroup (codes "g")))
unfolding attribute
group_under_its_name = (refl, (refl, (tt, tt, (tt, (tt, tt, (tt, tt, (tt, (refl, tt), tt))), tt))))

text_under_a_name_of_the_table : IsMatched (adds (codes "Object Group") (TextString (codes "g"))) → ⊥
unfolding attribute
text_under_a_name_of_the_table h = other_case 6 16 refl ((((h.1).1).2.1).2.2.1).0

text_under_another_name : IsMatched (adds (codes "x-a") (TextString (codes "g")))
unfolding attribute
text_under_another_name = (refl, (refl, (tt, tt, (tt, (tt, tt, (tt, tt, (tt, (refl, tt), tt))), tt))))

group_under_another_name : IsMatched (adds (codes "x-a") (ObjectGroup (codes "g"))) → ⊥
unfolding attribute
group_under_another_name h = other_case 16 6 refl ((((h.1).1).2.1).2.2.1).0

-- ---- custom structures

text_as_a_member : IsMatched (adds (codes "x-a") (Structure (Case 16 (Text (codes "g")) ∷ [])))
unfolding attribute
text_as_a_member = (refl, (refl, (tt, tt, (tt, (tt, tt, (tt, tt, (tt, (refl, (refl, tt)), tt))), tt))))

group_as_a_member : IsMatched (adds (codes "x-a") (Structure (Case 6 (Text (codes "g")) ∷ []))) → ⊥
unfolding attribute
group_as_a_member h = other_case 16 6 refl (((((h.1).1).2.1).2.2.1).1).0

structure_as_a_member : IsMatched
    (adds (codes "x-a") (Structure (Case 10 (Record (AndField (Many (vals_of [])) NoField)) ∷ [])))
    → ⊥
unfolding attribute
structure_as_a_member h = absurd (cc)

-- ---- key material

abbrev registers : KeyFormatType → KeyMaterial → RequestPayload
registers format material = Register objects.SymmetricKey (record { 0 = None; 1 = None })
    (Some (SymmetricKey (record {
      0 = record {
        0 = format;
        1 = None;
        2 = Some
            (record { 0 = material; 1 = None });
        3 = None;
        4 = None;
        5 = None;
      };
    })))

bytes_in_the_raw_format : IsMatched (registers formats.Raw (materials.Bytes []))
unfolding template_attribute key_block key_value
bytes_in_the_raw_format = (
  refl,
  (
    refl,
    (
      tt,
      tt,
      (
        tt,
        (tt, tt, (tt, tt, tt)),
        (
          tt,
          (
            refl,
            (
              tt,
              (
                tt,
                tt,
                (
                  tt,
                  tt,
                  (
                    tt,
                    (tt, (refl, tt), (tt, tt, tt)),
                    (tt, tt, (tt, tt, (tt, tt, tt))),
                  ),
                ),
              ),
              tt,
            ),
          ),
          tt,
        ),
      ),
    ),
  ),
)

bytes_in_a_transparent_format : IsMatched (registers formats.TransparentRSAPublicKey (materials.Bytes [])) → ⊥
unfolding template_attribute key_block key_value
bytes_in_a_transparent_format h = other_case 6 1 refl ((((((h.1).1).2.2.1).1).1).2.2.1).1.0

bytes_in_a_format_without_material : IsMatched (registers formats.TransparentECDSAPublicKey (materials.Bytes [])) → ⊥
unfolding template_attribute key_block key_value
bytes_in_a_format_without_material h = none_some ⊥ ((((((h.1).1).2.2.1).1).1).2.2.1).1.0

key_in_its_format : IsMatched (registers formats.TransparentSymmetricKey
    (materials.TransparentSymmetricKey (record { key = [] })))
unfolding template_attribute key_block key_value
key_in_its_format = (
  refl,
  (
    refl,
    (
      tt,
      tt,
      (
        tt,
        (tt, tt, (tt, tt, tt)),
        (
          tt,
          (
            refl,
            (
              tt,
              (
                tt,
                tt,
                (
                  tt,
                  tt,
                  (
                    tt,
                    (tt, (refl, (tt, tt, tt)), (tt, tt, tt)),
                    (tt, tt, (tt, tt, (tt, tt, tt))),
                  ),
                ),
              ),
              tt,
            ),
          ),
          tt,
        ),
      ),
    ),
  ),
)

structure_in_the_raw_format : IsMatched (registers formats.Raw (materials.Structure [])) → ⊥
unfolding template_attribute key_block key_value
structure_in_the_raw_format h = absurd (cc)

-- ---- optional lists

no_list : IsMatched (GetAttributes None None)
no_list = (refl, (refl, (tt, tt, (tt, tt, tt))))

empty_list : IsMatched (GetAttributes None (Some [])) → ⊥
empty_list h = ((h.1).1).2.0
