use Rattle.std.proofs.lemmas.Slice.Eq.{bytes_eq-Decides}
use Rattle.kmip_types.specs.BlockCipherModes.{block_cipher_mode_same}
use Rattle.kmip_types.specs.CryptographicAlgorithms.{cryptographic_algorithm_same}
use Rattle.kmip_types.specs.DigitalSignatureAlgorithms.{digital_signature_algorithm_same}
use Rattle.kmip_types.specs.HashingAlgorithms.{hashing_algorithm_same}
use Rattle.kmip_types.specs.KeyMaterials.{key_material_same}
use Rattle.kmip_types.specs.KeyRoleTypes.{key_role_type_same}
use Rattle.kmip_types.specs.PaddingMethods.{padding_method_same}
use Rattle.kmip_types.specs.ParameterFields.{counter_length_same, fixed_field_length_same, initial_counter_value_same, invocation_field_length_same, iv_length_same, random_iv_same, tag_length_same}
use Rattle.kmip_types.specs.Parameters.{cryptographic_parameters_same}
use Rattle.kmip_types.specs.TransparentKeys.{transparent_dh_private_key_same, transparent_dh_public_key_same, transparent_dsa_private_key_same, transparent_dsa_public_key_same, transparent_rsa_private_key_same, transparent_rsa_public_key_same, transparent_symmetric_key_same}
use Rattle.std.proofs.Common.{◌≡◌}
use Rattle.std.specs.Bool.{Decides}
use Rattle.kmip_types.specs.SameValues.{same_value-Decides}
use Rattle.kmip_types.specs.KeyMaterials.{key_material_val}
use Rattle.kmip_types.specs.TheKeyMaterial.{KeyMaterial}
use Rattle.kmip_types.specs.TheKeyMaterial.TheVariants as materials
use Rattle.kmip_keys.specs.contracts.key_material.KeyMaterialPartialEq.TheImpl as equality
use Rattle.kmip_equality.proofs.Rows.{table, case_of, value_of, one_of, optional_of, by_value, byte_strings}
use Rattle.kmip_equality.proofs.values.key_values.Goals as goal

pub returns-clause-cryptographic_parameters : goal.returns-clause-cryptographic_parameters
returns-clause-cryptographic_parameters c = by_value cryptographic_parameters_same (λ x y. search (
  table,
  optional_of block_cipher_mode_same c.code_values.ensures.block_cipher_mode,
  optional_of padding_method_same c.code_values.ensures.padding_method,
  optional_of hashing_algorithm_same c.code_values.ensures.hashing_algorithm,
  optional_of key_role_type_same c.code_values.ensures.key_role_type,
  optional_of digital_signature_algorithm_same c.code_values.ensures.digital_signature_algorithm,
  optional_of cryptographic_algorithm_same c.code_values.ensures.cryptographic_algorithm,
  optional_of random_iv_same c.field_values.ensures.random_iv,
  optional_of iv_length_same c.field_values.ensures.iv_length,
  optional_of tag_length_same c.field_values.ensures.tag_length,
  optional_of fixed_field_length_same c.field_values.ensures.fixed_field_length,
  optional_of invocation_field_length_same c.field_values.ensures.invocation_field_length,
  optional_of counter_length_same c.field_values.ensures.counter_length,
  optional_of initial_counter_value_same c.field_values.ensures.initial_counter_value,
) depth 16)

pub returns-clause-transparent_symmetric_key : goal.returns-clause-transparent_symmetric_key
returns-clause-transparent_symmetric_key c =
    by_value transparent_symmetric_key_same (λ x y. search (table, one_of byte_strings bytes_eq-Decides) depth 16)

pub returns-clause-transparent_dsa_private_key : goal.returns-clause-transparent_dsa_private_key
returns-clause-transparent_dsa_private_key c =
    by_value transparent_dsa_private_key_same (λ x y. search (table, one_of byte_strings bytes_eq-Decides) depth 16)

pub returns-clause-transparent_dsa_public_key : goal.returns-clause-transparent_dsa_public_key
returns-clause-transparent_dsa_public_key c =
    by_value transparent_dsa_public_key_same (λ x y. search (table, one_of byte_strings bytes_eq-Decides) depth 16)

pub returns-clause-transparent_rsa_private_key : goal.returns-clause-transparent_rsa_private_key
returns-clause-transparent_rsa_private_key c = by_value transparent_rsa_private_key_same (λ x y. search (
  table,
  one_of byte_strings bytes_eq-Decides,
  optional_of byte_strings bytes_eq-Decides,
) depth 16)

pub returns-clause-transparent_rsa_public_key : goal.returns-clause-transparent_rsa_public_key
returns-clause-transparent_rsa_public_key c =
    by_value transparent_rsa_public_key_same (λ x y. search (table, one_of byte_strings bytes_eq-Decides) depth 16)

pub returns-clause-transparent_dh_private_key : goal.returns-clause-transparent_dh_private_key
returns-clause-transparent_dh_private_key c = by_value transparent_dh_private_key_same (λ x y. search (
  table,
  one_of byte_strings bytes_eq-Decides,
  optional_of byte_strings bytes_eq-Decides,
) depth 16)

pub returns-clause-transparent_dh_public_key : goal.returns-clause-transparent_dh_public_key
returns-clause-transparent_dh_public_key c = by_value transparent_dh_public_key_same (λ x y. search (
  table,
  one_of byte_strings bytes_eq-Decides,
  optional_of byte_strings bytes_eq-Decides,
) depth 16)

pub returns-clause-key_material : goal.returns-clause-key_material
returns-clause-key_material c = by_value key_material_same go
  where
    go : (x y : KeyMaterial) → Decides (equality.ghosts.eq x y) (key_material_val x ≡ key_material_val y)
    go (materials.Bytes x) (materials.Bytes y) = case_of (value_of byte_strings bytes_eq-Decides x y)
    go (materials.TransparentSymmetricKey x) (materials.TransparentSymmetricKey y) =
        case_of (value_of transparent_symmetric_key_same (returns-clause-transparent_symmetric_key c) x y)
    go (materials.TransparentDSAPrivateKey x) (materials.TransparentDSAPrivateKey y) =
        case_of (value_of transparent_dsa_private_key_same (returns-clause-transparent_dsa_private_key c) x y)
    go (materials.TransparentDSAPublicKey x) (materials.TransparentDSAPublicKey y) =
        case_of (value_of transparent_dsa_public_key_same (returns-clause-transparent_dsa_public_key c) x y)
    go (materials.TransparentRSAPrivateKey x) (materials.TransparentRSAPrivateKey y) =
        case_of (value_of transparent_rsa_private_key_same (returns-clause-transparent_rsa_private_key c) x y)
    go (materials.TransparentRSAPublicKey x) (materials.TransparentRSAPublicKey y) =
        case_of (value_of transparent_rsa_public_key_same (returns-clause-transparent_rsa_public_key c) x y)
    go (materials.TransparentDHPrivateKey x) (materials.TransparentDHPrivateKey y) =
        case_of (value_of transparent_dh_private_key_same (returns-clause-transparent_dh_private_key c) x y)
    go (materials.TransparentDHPublicKey x) (materials.TransparentDHPublicKey y) =
        case_of (value_of transparent_dh_public_key_same (returns-clause-transparent_dh_public_key c) x y)
    go (materials.Structure x) (materials.Structure y) = case_of (value_of byte_strings bytes_eq-Decides x y)
    go (materials.Wrapped x) (materials.Wrapped y) = case_of (value_of byte_strings bytes_eq-Decides x y)
    go _ _ = (λ p. absurd (cc), λ p. absurd (cc))

pub returns-clause-attribute_value : goal.returns-clause-attribute_value
returns-clause-attribute_value c = same_value-Decides
