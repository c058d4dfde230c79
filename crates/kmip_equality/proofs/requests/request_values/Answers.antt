use Rattle.kmip_enums.specs.NameTypes.{name_type_same}
use Rattle.kmip_enums.specs.RevocationReasonCodes.{revocation_reason_code_same}
use Rattle.kmip_request.specs.Same.{major_same, minor_same, protocol_version_same}
use Rattle.kmip_request_objects.specs.Same.{attribute_same, common_template_attribute_same, encryption_key_information_same, iv_or_counter_or_nonce_same, key_block_same, key_value_same, key_wrapping_data_same, key_wrapping_specification_same, mac_or_signature_key_information_same, mac_or_signature_same, managed_object_same, name_same, private_key_same, private_key_template_attribute_same, public_key_same, public_key_template_attribute_same, revocation_reason_same, symmetric_key_same, template_attribute_same, template_same}
use Rattle.kmip_types.specs.AttributeNames.{attribute_name_same}
use Rattle.kmip_types.specs.AttributeValues.{attribute_value_same}
use Rattle.kmip_types.specs.CryptographicAlgorithms.{cryptographic_algorithm_same}
use Rattle.kmip_types.specs.KeyCompressionTypes.{key_compression_type_same}
use Rattle.kmip_types.specs.KeyFormatTypes.{key_format_type_same}
use Rattle.kmip_types.specs.KeyMaterials.{key_material_same}
use Rattle.kmip_types.specs.Numbers.{attribute_index_same, cryptographic_length_same}
use Rattle.kmip_types.specs.Parameters.{cryptographic_parameters_same}
use Rattle.kmip_types.specs.Texts.{name_value_same, revocation_message_same, unique_identifier_same}
use Rattle.kmip_types.specs.WrappingMethods.{wrapping_method_same}
use Rattle.std.proofs.Common.{◌≡◌}
use Rattle.std.specs.Bool.{Decides}
use Rattle.kmip_request_objects.specs.Values.{managed_object_val}
use Rattle.kmip_request_objects.specs.declared.managed_object.ManagedObject.{ManagedObject}
use Rattle.kmip_request_objects.specs.declared.managed_object.ManagedObject.TheVariants as objects
use Rattle.kmip_request_objects.specs.contracts.managed_object.ManagedObjectPartialEq.TheImpl as equality
use Rattle.kmip_equality.proofs.Rows.{table, case_of, value_of, one_of, optional_of, list_of, optional_list_of, by_value}
use Rattle.kmip_equality.proofs.requests.request_values.Goals as goal

pub returns-clause-name : goal.returns-clause-name
returns-clause-name c = by_value name_same (λ x y. search (
  table,
  one_of name_value_same c.field_values.ensures.name_value,
  one_of name_type_same c.code_values.ensures.name_type,
) depth 16)

pub returns-clause-attribute : goal.returns-clause-attribute
returns-clause-attribute c = by_value attribute_same (λ x y. search (
  table,
  one_of attribute_name_same c.field_values.ensures.attribute_name,
  optional_of attribute_index_same c.field_values.ensures.attribute_index,
  one_of attribute_value_same c.key_values.ensures.attribute_value,
) depth 16)

pub returns-clause-template_attribute : goal.returns-clause-template_attribute
returns-clause-template_attribute c = by_value template_attribute_same (λ x y. search (
  table,
  optional_list_of name_same (returns-clause-name c),
  optional_list_of attribute_same (returns-clause-attribute c),
) depth 16)

pub returns-clause-common_template_attribute : goal.returns-clause-common_template_attribute
returns-clause-common_template_attribute c = by_value common_template_attribute_same (λ x y. search (
  table,
  optional_list_of name_same (returns-clause-name c),
  optional_list_of attribute_same (returns-clause-attribute c),
) depth 16)

pub returns-clause-private_key_template_attribute : goal.returns-clause-private_key_template_attribute
returns-clause-private_key_template_attribute c = by_value private_key_template_attribute_same (λ x y. search (
  table,
  optional_list_of name_same (returns-clause-name c),
  optional_list_of attribute_same (returns-clause-attribute c),
) depth 16)

pub returns-clause-public_key_template_attribute : goal.returns-clause-public_key_template_attribute
returns-clause-public_key_template_attribute c = by_value public_key_template_attribute_same (λ x y. search (
  table,
  optional_list_of name_same (returns-clause-name c),
  optional_list_of attribute_same (returns-clause-attribute c),
) depth 16)

pub returns-clause-encryption_key_information : goal.returns-clause-encryption_key_information
returns-clause-encryption_key_information c = by_value encryption_key_information_same (λ x y. search (
  table,
  one_of unique_identifier_same c.field_values.ensures.unique_identifier,
  optional_of cryptographic_parameters_same c.key_values.ensures.cryptographic_parameters,
) depth 16)

pub returns-clause-mac_or_signature_key_information : goal.returns-clause-mac_or_signature_key_information
returns-clause-mac_or_signature_key_information c = by_value mac_or_signature_key_information_same (λ x y. search (
  table,
  one_of unique_identifier_same c.field_values.ensures.unique_identifier,
  optional_of cryptographic_parameters_same c.key_values.ensures.cryptographic_parameters,
) depth 16)

pub returns-clause-key_wrapping_data : goal.returns-clause-key_wrapping_data
returns-clause-key_wrapping_data c = by_value key_wrapping_data_same (λ x y. search (
  table,
  one_of wrapping_method_same c.code_values.ensures.wrapping_method,
  optional_of encryption_key_information_same (returns-clause-encryption_key_information c),
  optional_of mac_or_signature_key_information_same (returns-clause-mac_or_signature_key_information c),
  optional_list_of attribute_same (returns-clause-attribute c),
  optional_of mac_or_signature_same c.request_fields.ensures.mac_or_signature,
  optional_of iv_or_counter_or_nonce_same c.request_fields.ensures.iv_or_counter_or_nonce,
) depth 16)

pub returns-clause-key_wrapping_specification : goal.returns-clause-key_wrapping_specification
returns-clause-key_wrapping_specification c = by_value key_wrapping_specification_same (λ x y. search (
  table,
  one_of wrapping_method_same c.code_values.ensures.wrapping_method,
  optional_of encryption_key_information_same (returns-clause-encryption_key_information c),
  optional_of mac_or_signature_key_information_same (returns-clause-mac_or_signature_key_information c),
  optional_list_of attribute_same (returns-clause-attribute c),
) depth 16)

pub returns-clause-key_value : goal.returns-clause-key_value
returns-clause-key_value c = by_value key_value_same (λ x y. search (
  table,
  one_of key_material_same c.key_values.ensures.key_material,
  optional_list_of attribute_same (returns-clause-attribute c),
) depth 16)

pub returns-clause-key_block : goal.returns-clause-key_block
returns-clause-key_block c = by_value key_block_same (λ x y. search (
  table,
  one_of key_format_type_same c.code_values.ensures.key_format_type,
  optional_of key_compression_type_same c.code_values.ensures.key_compression_type,
  optional_of key_value_same (returns-clause-key_value c),
  optional_of cryptographic_algorithm_same c.code_values.ensures.cryptographic_algorithm,
  optional_of cryptographic_length_same c.field_values.ensures.cryptographic_length,
  optional_of key_wrapping_data_same (returns-clause-key_wrapping_data c),
) depth 16)

pub returns-clause-symmetric_key : goal.returns-clause-symmetric_key
returns-clause-symmetric_key c =
    by_value symmetric_key_same (λ x y. search (table, one_of key_block_same (returns-clause-key_block c)) depth 16)

pub returns-clause-public_key : goal.returns-clause-public_key
returns-clause-public_key c =
    by_value public_key_same (λ x y. search (table, one_of key_block_same (returns-clause-key_block c)) depth 16)

pub returns-clause-private_key : goal.returns-clause-private_key
returns-clause-private_key c =
    by_value private_key_same (λ x y. search (table, one_of key_block_same (returns-clause-key_block c)) depth 16)

pub returns-clause-template : goal.returns-clause-template
returns-clause-template c =
    by_value template_same (λ x y. search (table, list_of attribute_same (returns-clause-attribute c)) depth 16)

pub returns-clause-managed_object : goal.returns-clause-managed_object
returns-clause-managed_object c = by_value managed_object_same go
  where
    go : (x y : ManagedObject) → Decides (equality.ghosts.eq x y) (managed_object_val x ≡ managed_object_val y)
    go (objects.SymmetricKey x) (objects.SymmetricKey y) =
        case_of (value_of symmetric_key_same (returns-clause-symmetric_key c) x y)
    go (objects.PublicKey x) (objects.PublicKey y) =
        case_of (value_of public_key_same (returns-clause-public_key c) x y)
    go (objects.PrivateKey x) (objects.PrivateKey y) =
        case_of (value_of private_key_same (returns-clause-private_key c) x y)
    go (objects.Template x) (objects.Template y) = case_of (value_of template_same (returns-clause-template c) x y)
    go _ _ = (λ p. absurd (cc), λ p. absurd (cc))

pub returns-clause-revocation_reason : goal.returns-clause-revocation_reason
returns-clause-revocation_reason c = by_value revocation_reason_same (λ x y. search (
  table,
  one_of revocation_reason_code_same c.code_values.ensures.revocation_reason_code,
  optional_of revocation_message_same c.field_values.ensures.revocation_message,
) depth 16)

pub returns-clause-protocol_version : goal.returns-clause-protocol_version
returns-clause-protocol_version c = by_value protocol_version_same (λ x y. search (
  table,
  one_of major_same c.request_fields.ensures.protocol_version_major,
  one_of minor_same c.request_fields.ensures.protocol_version_minor,
) depth 16)
