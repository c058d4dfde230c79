-- Typed values with equal `Val`s are equal.
use Rattle.std.specs.Prelude.{ℕ, ℤ, List, Option}
use Rattle.std.proofs.Common.{ap}
use Rattle.kmip_shape.specs.Val.{Number, Bytes}
use Rattle.kmip_shape.specs.Same.{IsFaithful, same_record, same_number, same_bytes, same_case, one_row, optional_row, optional_list_row, and_row, no_row}
use Rattle.kmip_types.specs.Texts.{name_value_same, unique_identifier_same}
use Rattle.kmip_enums.specs.NameTypes.{name_type_same}
use Rattle.kmip_types.specs.AttributeNames.{attribute_name_same}
use Rattle.kmip_types.specs.Numbers.{attribute_index_same}
use Rattle.kmip_types.specs.AttributeValues.{attribute_value_same}
use Rattle.kmip_types.specs.Parameters.{cryptographic_parameters_same}
use Rattle.kmip_types.specs.WrappingMethods.{wrapping_method_same}
use Rattle.kmip_types.specs.KeyMaterials.{key_material_same}
use Rattle.kmip_types.specs.KeyFormatTypes.{key_format_type_same}
use Rattle.kmip_types.specs.KeyCompressionTypes.{key_compression_type_same}
use Rattle.kmip_types.specs.CryptographicAlgorithms.{cryptographic_algorithm_same}
use Rattle.kmip_enums.specs.CertificateTypes.{certificate_type_same}
use Rattle.kmip_types.specs.TheNameValue.{NameValue}
use Rattle.kmip_enums.specs.declared.name_type.NameType.{NameType}
use Rattle.kmip_types.specs.TheAttributeName.{AttributeName}
use Rattle.kmip_types.specs.TheAttributeIndex.{AttributeIndex}
use Rattle.kmip_types.specs.declared.attribute_value.AttributeValue.{AttributeValue}
use Rattle.kmip_types.specs.TheUniqueIdentifier.{UniqueIdentifier}
use Rattle.kmip_types.specs.declared.cryptographic_parameters.CryptographicParameters.{CryptographicParameters}
use Rattle.kmip_types.specs.TheWrappingMethod.{WrappingMethod}
use Rattle.kmip_types.specs.TheKeyMaterial.{KeyMaterial}
use Rattle.kmip_types.specs.TheKeyFormatType.{KeyFormatType}
use Rattle.kmip_types.specs.TheKeyCompressionType.{KeyCompressionType}
use Rattle.kmip_types.specs.TheCryptographicAlgorithm.{CryptographicAlgorithm}
use Rattle.kmip_enums.specs.declared.certificate_type.CertificateType.{CertificateType}
use Rattle.kmip_response_objects.specs.Values.{attribute_val, name_val, template_attribute_val, encryption_key_information_val, mac_or_signature_key_information_val, key_wrapping_data_val, key_value_val, key_block_val, certificate_val, symmetric_key_val, public_key_val, private_key_val, managed_object_val}
use Rattle.kmip_response_objects.specs.declared.attribute.Attribute.{Attribute}
use Rattle.kmip_response_objects.specs.declared.name.Name.{Name}
use Rattle.kmip_response_objects.specs.declared.template_attribute.TemplateAttribute.{TemplateAttribute}
use Rattle.kmip_response_objects.specs.declared.key_wrapping.EncryptionKeyInformation.{EncryptionKeyInformation}
use Rattle.kmip_response_objects.specs.declared.key_wrapping.MACOrSignatureKeyInformation.{MACOrSignatureKeyInformation}
use Rattle.kmip_response_objects.specs.declared.key_wrapping.KeyWrappingData.{KeyWrappingData}
use Rattle.kmip_response_objects.specs.declared.key_block.KeyValue.{KeyValue}
use Rattle.kmip_response_objects.specs.declared.key_block.KeyBlock.{KeyBlock}
use Rattle.kmip_response_objects.specs.declared.managed_object.Certificate.{Certificate}
use Rattle.kmip_response_objects.specs.declared.managed_object.SymmetricKey.{SymmetricKey}
use Rattle.kmip_response_objects.specs.declared.managed_object.PublicKey.{PublicKey}
use Rattle.kmip_response_objects.specs.declared.managed_object.PrivateKey.{PrivateKey}
use Rattle.kmip_response_objects.specs.declared.managed_object.ManagedObject.TheVariants as objects

number : IsFaithful Number
number x y h = same_number h

bytes : IsFaithful Bytes
bytes x y h = same_bytes h

abbrev whole_name : NameValue × (NameType × Unit {0}) → Name
whole_name t = record { name = t.0; name_type = (t.1).0 }

pub name_same : IsFaithful name_val
name_same x y h =
    ap whole_name (and_row (one_row name_value_same) (and_row (one_row name_type_same) no_row)
    (x.name, (x.name_type, tt)) (y.name, (y.name_type, tt)) (same_record h))

abbrev whole_attribute : AttributeName × (Option AttributeIndex × (AttributeValue × Unit {0})) →
    Attribute
whole_attribute t = record { name = t.0; index = (t.1).0; value = ((t.1).1).0 }

pub attribute_same : IsFaithful attribute_val
attribute_same x y h =
    ap whole_attribute (and_row (one_row attribute_name_same)
    (and_row (optional_row attribute_index_same)
    (and_row (one_row attribute_value_same) no_row))
    (x.name, (x.index, (x.value, tt))) (y.name, (y.index, (y.value, tt))) (same_record h))

abbrev whole_template_attribute : Option (List Name) × (Option (List Attribute) × Unit {0}) →
    TemplateAttribute
whole_template_attribute t = record { name = t.0; attributes = (t.1).0 }

pub template_attribute_same : IsFaithful template_attribute_val
template_attribute_same x y h =
    ap whole_template_attribute
    (and_row (optional_list_row name_same) (and_row (optional_list_row attribute_same) no_row)
    (x.name, (x.attributes, tt)) (y.name, (y.attributes, tt)) (same_record h))

abbrev whole_encryption_key_information : UniqueIdentifier ×
    (Option CryptographicParameters × Unit {0}) → EncryptionKeyInformation
whole_encryption_key_information t =
    record { unique_identifier = t.0; cryptographic_parameters = (t.1).0 }

pub encryption_key_information_same : IsFaithful encryption_key_information_val
encryption_key_information_same x y h =
    ap whole_encryption_key_information
    (and_row (one_row unique_identifier_same)
    (and_row (optional_row cryptographic_parameters_same) no_row)
    (x.unique_identifier, (x.cryptographic_parameters, tt))
    (y.unique_identifier, (y.cryptographic_parameters, tt)) (same_record h))

abbrev whole_mac_or_signature_key_information : UniqueIdentifier ×
    (Option CryptographicParameters × Unit {0}) → MACOrSignatureKeyInformation
whole_mac_or_signature_key_information t =
    record { unique_identifier = t.0; cryptographic_parameters = (t.1).0 }

pub mac_or_signature_key_information_same : IsFaithful mac_or_signature_key_information_val
mac_or_signature_key_information_same x y h =
    ap whole_mac_or_signature_key_information
    (and_row (one_row unique_identifier_same)
    (and_row (optional_row cryptographic_parameters_same) no_row)
    (x.unique_identifier, (x.cryptographic_parameters, tt))
    (y.unique_identifier, (y.cryptographic_parameters, tt)) (same_record h))

abbrev whole_key_wrapping_data : WrappingMethod ×
    (Option EncryptionKeyInformation ×
    (Option MACOrSignatureKeyInformation × (Option (List ℕ) × (Option (List ℕ) × Unit {0})))) →
    KeyWrappingData
whole_key_wrapping_data t =
    record {
      wrapping_method = t.0;
      encryption_key_information = (t.1).0;
      mac_or_signature_key_information = ((t.1).1).0;
      mac_or_signature =
          (((t.1).1).1).0;
      iv_or_counter_or_nonce = ((((t.1).1).1).1).0;
    }

pub key_wrapping_data_same : IsFaithful key_wrapping_data_val
key_wrapping_data_same x y h =
    ap whole_key_wrapping_data
    (and_row (one_row wrapping_method_same)
    (and_row (optional_row encryption_key_information_same)
    (and_row (optional_row mac_or_signature_key_information_same)
    (and_row (optional_row bytes) (and_row (optional_row bytes) no_row)))) (
      x.wrapping_method,
      (
        x.encryption_key_information,
        (
          x.mac_or_signature_key_information,
          (x.mac_or_signature, (x.iv_or_counter_or_nonce, tt)),
        ),
      ),
    ) (
      y.wrapping_method,
      (
        y.encryption_key_information,
        (
          y.mac_or_signature_key_information,
          (y.mac_or_signature, (y.iv_or_counter_or_nonce, tt)),
        ),
      ),
    ) (same_record h))

abbrev whole_key_value : KeyMaterial × (Option (List Attribute) × Unit {0}) → KeyValue
whole_key_value t = record { key_material = t.0; attributes = (t.1).0 }

pub key_value_same : IsFaithful key_value_val
key_value_same x y h =
    ap whole_key_value (and_row (one_row key_material_same)
    (and_row (optional_list_row attribute_same) no_row)
    (x.key_material, (x.attributes, tt)) (y.key_material, (y.attributes, tt)) (same_record h))

abbrev whole_key_block : KeyFormatType ×
    (Option KeyCompressionType ×
    (KeyValue × (Option CryptographicAlgorithm ×
    (Option ℤ × (Option KeyWrappingData × Unit {0}))))) → KeyBlock
whole_key_block t = record {
  key_format_type = t.0;
  key_compression_type = (t.1).0;
  key_value = ((t.1).1).0;
  cryptographic_algorithm = (((t.1).1).1).0;
  cryptographic_length =
      ((((t.1).1).1).1).0;
  key_wrapping_data = (((((t.1).1).1).1).1).0;
}

pub key_block_same : IsFaithful key_block_val
key_block_same x y h =
    ap whole_key_block (and_row (one_row key_format_type_same)
    (and_row (optional_row key_compression_type_same)
    (and_row (one_row key_value_same)
    (and_row (optional_row cryptographic_algorithm_same)
    (and_row (optional_row number) (and_row (optional_row key_wrapping_data_same) no_row))))) (
      x.key_format_type,
      (
        x.key_compression_type,
        (
          x.key_value,
          (
            x.cryptographic_algorithm,
            (x.cryptographic_length, (x.key_wrapping_data, tt)),
          ),
        ),
      ),
    ) (
      y.key_format_type,
      (
        y.key_compression_type,
        (
          y.key_value,
          (
            y.cryptographic_algorithm,
            (y.cryptographic_length, (y.key_wrapping_data, tt)),
          ),
        ),
      ),
    ) (same_record h))

abbrev whole_certificate : CertificateType × (List ℕ × Unit {0}) → Certificate
whole_certificate t = record { certificate_type = t.0; certificate_value = (t.1).0 }

pub certificate_same : IsFaithful certificate_val
certificate_same x y h =
    ap whole_certificate (and_row (one_row certificate_type_same) (and_row (one_row bytes) no_row)
    (x.certificate_type, (x.certificate_value, tt)) (y.certificate_type, (y.certificate_value, tt))
    (same_record h))

abbrev whole_symmetric_key : KeyBlock × Unit {0} → SymmetricKey
whole_symmetric_key t = record { key_block = t.0 }

pub symmetric_key_same : IsFaithful symmetric_key_val
symmetric_key_same x y h =
    ap whole_symmetric_key (and_row (one_row key_block_same) no_row
    (x.key_block, tt) (y.key_block, tt) (same_record h))

abbrev whole_public_key : KeyBlock × Unit {0} → PublicKey
whole_public_key t = record { key_block = t.0 }

pub public_key_same : IsFaithful public_key_val
public_key_same x y h =
    ap whole_public_key (and_row (one_row key_block_same) no_row
    (x.key_block, tt) (y.key_block, tt) (same_record h))

abbrev whole_private_key : KeyBlock × Unit {0} → PrivateKey
whole_private_key t = record { key_block = t.0 }

pub private_key_same : IsFaithful private_key_val
private_key_same x y h =
    ap whole_private_key (and_row (one_row key_block_same) no_row
    (x.key_block, tt) (y.key_block, tt) (same_record h))

pub managed_object_same : IsFaithful managed_object_val
managed_object_same (objects.Certificate x) (objects.Certificate y) h =
    ap objects.Certificate (certificate_same x y (same_case h).1)
managed_object_same (objects.SymmetricKey x) (objects.SymmetricKey y) h =
    ap objects.SymmetricKey (symmetric_key_same x y (same_case h).1)
managed_object_same (objects.PublicKey x) (objects.PublicKey y) h =
    ap objects.PublicKey (public_key_same x y (same_case h).1)
managed_object_same (objects.PrivateKey x) (objects.PrivateKey y) h =
    ap objects.PrivateKey (private_key_same x y (same_case h).1)
managed_object_same _ _ h = cc
