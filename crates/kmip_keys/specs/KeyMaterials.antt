-- Key material, in the format that its key block names.
use Rattle.std.specs.Prelude.{ℕ, [], ◌∷◌, None, codes}
use Rattle.std.proofs.Common.{ap}
use Rattle.kmip_wire.specs.declared.kind.Kind.TheVariants.{ByteString}
use Rattle.kmip_shape.specs.Val.{Val, Case, Bytes as bytes_of}
use Rattle.kmip_shape.specs.Shape.{Shape, Scalar, Cases, NoCase, AndCase, Choice, OfNumber, ByNumbers, Formless}
use Rattle.kmip_shape.specs.Same.{IsFaithful, same_case}
use Rattle.kmip_keys.specs.TransparentKeys.{transparent_symmetric_key, transparent_dsa_private_key, transparent_dsa_public_key, transparent_rsa_private_key, transparent_rsa_public_key, transparent_dh_private_key, transparent_dh_public_key, transparent_symmetric_key_val, transparent_dsa_private_key_val, transparent_dsa_public_key_val, transparent_rsa_private_key_val, transparent_rsa_public_key_val, transparent_dh_private_key_val, transparent_dh_public_key_val, transparent_symmetric_key_same, transparent_dsa_private_key_same, transparent_dsa_public_key_same, transparent_rsa_private_key_same, transparent_rsa_public_key_same, transparent_dh_private_key_same, transparent_dh_public_key_same}
use Rattle.kmip_keys.specs.declared.key_material.KeyMaterial.{KeyMaterial}
use Rattle.kmip_keys.specs.declared.key_material.KeyMaterial.TheVariants.{Bytes, TransparentSymmetricKey, TransparentDSAPrivateKey, TransparentDSAPublicKey, TransparentRSAPrivateKey, TransparentRSAPublicKey, TransparentDHPrivateKey, TransparentDHPublicKey, Structure, Wrapped}

-- key material is chosen by the number of its key block's Key Format Type (KMIP 1.0, 2.1.3)
abbrev pub key_materials : Cases
key_materials =
    AndCase 1 (codes "Bytes") (ByNumbers (1 ∷ 2 ∷ 3 ∷ 4 ∷ 5 ∷ 6 ∷ [])) None (Scalar ByteString)
    (AndCase 2 (codes "TransparentSymmetricKey") (ByNumbers (7 ∷ [])) None transparent_symmetric_key
    (AndCase 3 (codes "TransparentDSAPrivateKey") (ByNumbers (8 ∷ [])) None
    transparent_dsa_private_key
    (AndCase 4 (codes "TransparentDSAPublicKey") (ByNumbers (9 ∷ [])) None
    transparent_dsa_public_key
    (AndCase 5 (codes "TransparentRSAPrivateKey") (ByNumbers (10 ∷ [])) None
    transparent_rsa_private_key
    (AndCase 6 (codes "TransparentRSAPublicKey") (ByNumbers (11 ∷ [])) None
    transparent_rsa_public_key
    (AndCase 7 (codes "TransparentDHPrivateKey") (ByNumbers (12 ∷ [])) None
    transparent_dh_private_key
    (AndCase 8 (codes "TransparentDHPublicKey") (ByNumbers (13 ∷ [])) None transparent_dh_public_key
    (AndCase 9 (codes "Structure") Formless None (Scalar ByteString)
    (AndCase 10 (codes "Wrapped") Formless None (Scalar ByteString)
    NoCase)))))))))

-- the case of a wrapped key, which is only in a Key Value that is a Byte String (KMIP 1.0, 2.1.4)
abbrev pub wrapped_case : ℕ
wrapped_case = 10

abbrev pub key_material : Shape
key_material = Choice OfNumber key_materials

abbrev pub key_material_val : KeyMaterial → Val
key_material_val (Bytes b) = Case 1 (bytes_of b)
key_material_val (TransparentSymmetricKey x) = Case 2 (transparent_symmetric_key_val x)
key_material_val (TransparentDSAPrivateKey x) = Case 3 (transparent_dsa_private_key_val x)
key_material_val (TransparentDSAPublicKey x) = Case 4 (transparent_dsa_public_key_val x)
key_material_val (TransparentRSAPrivateKey x) = Case 5 (transparent_rsa_private_key_val x)
key_material_val (TransparentRSAPublicKey x) = Case 6 (transparent_rsa_public_key_val x)
key_material_val (TransparentDHPrivateKey x) = Case 7 (transparent_dh_private_key_val x)
key_material_val (TransparentDHPublicKey x) = Case 8 (transparent_dh_public_key_val x)
key_material_val (Structure b) = Case 9 (bytes_of b)
key_material_val (Wrapped b) = Case 10 (bytes_of b)

pub key_material_same : IsFaithful key_material_val
key_material_same (Bytes x) (Bytes y) h = cc
key_material_same (TransparentSymmetricKey x) (TransparentSymmetricKey y) h =
    ap TransparentSymmetricKey (transparent_symmetric_key_same x y (same_case h).1)
key_material_same (TransparentDSAPrivateKey x) (TransparentDSAPrivateKey y) h =
    ap TransparentDSAPrivateKey (transparent_dsa_private_key_same x y (same_case h).1)
key_material_same (TransparentDSAPublicKey x) (TransparentDSAPublicKey y) h =
    ap TransparentDSAPublicKey (transparent_dsa_public_key_same x y (same_case h).1)
key_material_same (TransparentRSAPrivateKey x) (TransparentRSAPrivateKey y) h =
    ap TransparentRSAPrivateKey (transparent_rsa_private_key_same x y (same_case h).1)
key_material_same (TransparentRSAPublicKey x) (TransparentRSAPublicKey y) h =
    ap TransparentRSAPublicKey (transparent_rsa_public_key_same x y (same_case h).1)
key_material_same (TransparentDHPrivateKey x) (TransparentDHPrivateKey y) h =
    ap TransparentDHPrivateKey (transparent_dh_private_key_same x y (same_case h).1)
key_material_same (TransparentDHPublicKey x) (TransparentDHPublicKey y) h =
    ap TransparentDHPublicKey (transparent_dh_public_key_same x y (same_case h).1)
key_material_same (Structure x) (Structure y) h = cc
key_material_same (Wrapped x) (Wrapped y) h = cc
key_material_same _ _ h = cc
