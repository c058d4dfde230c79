-- Typed values of the same meaning are equal.
use Rattle.std.specs.Prelude.{ℕ, List, Option}
use Rattle.std.proofs.Common.{ap}
use Rattle.kmip_shape.specs.Same.{IsFaithful, same_record, same_bytes, same_case, one_row, optional_row, list_row, optional_list_row, and_row, no_row}
use Rattle.kmip_types.specs.Texts.{name_value_same, unique_identifier_same, revocation_message_same}
use Rattle.kmip_enums.specs.NameTypes.{name_type_same}
use Rattle.kmip_types.specs.AttributeNames.{attribute_name_same}
use Rattle.kmip_types.specs.Numbers.{attribute_index_same, cryptographic_length_same}
use Rattle.kmip_types.specs.AttributeValues.{attribute_value_same}
use Rattle.kmip_types.specs.Parameters.{cryptographic_parameters_same}
use Rattle.kmip_types.specs.WrappingMethods.{wrapping_method_same}
use Rattle.kmip_types.specs.KeyMaterials.{key_material_same}
use Rattle.kmip_types.specs.KeyFormatTypes.{key_format_type_same}
use Rattle.kmip_types.specs.KeyCompressionTypes.{key_compression_type_same}
use Rattle.kmip_types.specs.CryptographicAlgorithms.{cryptographic_algorithm_same}
use Rattle.kmip_enums.specs.RevocationReasonCodes.{revocation_reason_code_same}
use Rattle.kmip_request_objects.specs.Values.{attribute_val, name_val, template_attribute_val, common_template_attribute_val, private_key_template_attribute_val, public_key_template_attribute_val, encryption_key_information_val, mac_or_signature_key_information_val, key_wrapping_data_val, key_wrapping_specification_val, key_value_val, key_block_val, symmetric_key_val, public_key_val, private_key_val, template_val, managed_object_val, revocation_reason_val, mac_or_signature_val, iv_or_counter_or_nonce_val}
use Rattle.kmip_types.specs.TheNameValue.{NameValue}
use Rattle.kmip_enums.specs.declared.name_type.NameType.{NameType}
use Rattle.kmip_types.specs.TheAttributeName.{AttributeName}
use Rattle.kmip_types.specs.TheAttributeIndex.{AttributeIndex}
use Rattle.kmip_types.specs.declared.attribute_value.AttributeValue.{AttributeValue}
use Rattle.kmip_request_objects.specs.declared.name.Name.{Name}
use Rattle.kmip_request_objects.specs.declared.attribute.Attribute.{Attribute}
use Rattle.kmip_types.specs.TheUniqueIdentifier.{UniqueIdentifier}
use Rattle.kmip_types.specs.declared.cryptographic_parameters.CryptographicParameters.{CryptographicParameters}
use Rattle.kmip_types.specs.TheWrappingMethod.{WrappingMethod}
use Rattle.kmip_request_objects.specs.declared.key_wrapping.EncryptionKeyInformation.{EncryptionKeyInformation}
use Rattle.kmip_request_objects.specs.declared.key_wrapping.MACOrSignatureKeyInformation.{MACOrSignatureKeyInformation}
use Rattle.kmip_request_objects.specs.declared.byte_strings.MACOrSignature.{MACOrSignature}
use Rattle.kmip_request_objects.specs.declared.byte_strings.IVOrCounterOrNonce.{IVOrCounterOrNonce}
use Rattle.kmip_types.specs.TheKeyMaterial.{KeyMaterial}
use Rattle.kmip_types.specs.TheKeyFormatType.{KeyFormatType}
use Rattle.kmip_types.specs.TheKeyCompressionType.{KeyCompressionType}
use Rattle.kmip_request_objects.specs.declared.key_block.KeyValue.{KeyValue}
use Rattle.kmip_types.specs.TheCryptographicAlgorithm.{CryptographicAlgorithm}
use Rattle.kmip_types.specs.TheCryptographicLength.{CryptographicLength}
use Rattle.kmip_request_objects.specs.declared.key_wrapping.KeyWrappingData.{KeyWrappingData}
use Rattle.kmip_request_objects.specs.declared.key_block.KeyBlock.{KeyBlock}
use Rattle.kmip_enums.specs.declared.revocation_reason_code.RevocationReasonCode.{RevocationReasonCode}
use Rattle.kmip_types.specs.TheRevocationMessage.{RevocationMessage}
use Rattle.kmip_request_objects.specs.declared.template_attribute.TemplateAttribute.{TemplateAttribute}
use Rattle.kmip_request_objects.specs.declared.template_attribute.CommonTemplateAttribute.{CommonTemplateAttribute}
use Rattle.kmip_request_objects.specs.declared.template_attribute.PrivateKeyTemplateAttribute.{PrivateKeyTemplateAttribute}
use Rattle.kmip_request_objects.specs.declared.template_attribute.PublicKeyTemplateAttribute.{PublicKeyTemplateAttribute}
use Rattle.kmip_request_objects.specs.declared.key_wrapping.KeyWrappingSpecification.{KeyWrappingSpecification}
use Rattle.kmip_request_objects.specs.declared.revocation_reason.RevocationReason.{RevocationReason}
use Rattle.kmip_request_objects.specs.declared.managed_object.ManagedObject.TheVariants as objects
use Rattle.kmip_request_objects.specs.declared.managed_object.SymmetricKey.{SymmetricKey}
use Rattle.kmip_request_objects.specs.declared.managed_object.PublicKey.{PublicKey}
use Rattle.kmip_request_objects.specs.declared.managed_object.PrivateKey.{PrivateKey}
use Rattle.kmip_request_objects.specs.declared.managed_object.Template.{Template}

pub mac_or_signature_same : IsFaithful mac_or_signature_val
mac_or_signature_same x y h =
    let made : List ℕ → MACOrSignature = λ value. record { 0 = value } in ap made (same_bytes h)

pub iv_or_counter_or_nonce_same : IsFaithful iv_or_counter_or_nonce_val
iv_or_counter_or_nonce_same x y h =
    let made : List ℕ → IVOrCounterOrNonce = λ value. record { 0 = value } in ap made (same_bytes h)

abbrev whole_name : NameValue × (NameType × Unit {0}) → Name
whole_name t = record { 0 = t.0; 1 = (t.1).0 }

pub name_same : IsFaithful name_val
name_same x y h =
    ap whole_name (and_row (one_row name_value_same) (and_row (one_row name_type_same) no_row)
    (x.0, (x.1, tt)) (y.0, (y.1, tt)) (same_record h))

abbrev whole_attribute : AttributeName × (Option AttributeIndex × (AttributeValue × Unit {0})) →
    Attribute
whole_attribute t = record { 0 = t.0; 1 = (t.1).0; 2 = ((t.1).1).0 }

pub attribute_same : IsFaithful attribute_val
attribute_same x y h =
    ap whole_attribute (and_row (one_row attribute_name_same)
    (and_row (optional_row attribute_index_same)
    (and_row (one_row attribute_value_same) no_row))
    (x.0, (x.1, (x.2, tt))) (y.0, (y.1, (y.2, tt))) (same_record h))

abbrev whole_template_attribute : Option (List Name) × (Option (List Attribute) × Unit {0}) →
    TemplateAttribute
whole_template_attribute t = record { 0 = t.0; 1 = (t.1).0 }

pub template_attribute_same : IsFaithful template_attribute_val
template_attribute_same x y h =
    ap whole_template_attribute
    (and_row (optional_list_row name_same) (and_row (optional_list_row attribute_same) no_row)
    (x.0, (x.1, tt)) (y.0, (y.1, tt)) (same_record h))

abbrev whole_common_template_attribute : Option (List Name) × (Option (List Attribute) × Unit {0}) →
    CommonTemplateAttribute
whole_common_template_attribute t = record { 0 = t.0; 1 = (t.1).0 }

pub common_template_attribute_same : IsFaithful common_template_attribute_val
common_template_attribute_same x y h =
    ap whole_common_template_attribute
    (and_row (optional_list_row name_same) (and_row (optional_list_row attribute_same) no_row)
    (x.0, (x.1, tt)) (y.0, (y.1, tt)) (same_record h))

abbrev whole_private_key_template_attribute : Option (List Name) ×
    (Option (List Attribute) × Unit {0}) → PrivateKeyTemplateAttribute
whole_private_key_template_attribute t = record { 0 = t.0; 1 = (t.1).0 }

pub private_key_template_attribute_same : IsFaithful private_key_template_attribute_val
private_key_template_attribute_same x y h =
    ap whole_private_key_template_attribute
    (and_row (optional_list_row name_same) (and_row (optional_list_row attribute_same) no_row)
    (x.0, (x.1, tt)) (y.0, (y.1, tt)) (same_record h))

abbrev whole_public_key_template_attribute : Option (List Name) ×
    (Option (List Attribute) × Unit {0}) → PublicKeyTemplateAttribute
whole_public_key_template_attribute t = record { 0 = t.0; 1 = (t.1).0 }

pub public_key_template_attribute_same : IsFaithful public_key_template_attribute_val
public_key_template_attribute_same x y h =
    ap whole_public_key_template_attribute
    (and_row (optional_list_row name_same) (and_row (optional_list_row attribute_same) no_row)
    (x.0, (x.1, tt)) (y.0, (y.1, tt)) (same_record h))

abbrev whole_encryption_key_information : UniqueIdentifier ×
    (Option CryptographicParameters × Unit {0}) → EncryptionKeyInformation
whole_encryption_key_information t = record { 0 = t.0; 1 = (t.1).0 }

pub encryption_key_information_same : IsFaithful encryption_key_information_val
encryption_key_information_same x y h =
    ap whole_encryption_key_information
    (and_row (one_row unique_identifier_same)
    (and_row (optional_row cryptographic_parameters_same) no_row)
    (x.0, (x.1, tt)) (y.0, (y.1, tt)) (same_record h))

abbrev whole_mac_or_signature_key_information : UniqueIdentifier ×
    (Option CryptographicParameters × Unit {0}) → MACOrSignatureKeyInformation
whole_mac_or_signature_key_information t = record { 0 = t.0; 1 = (t.1).0 }

pub mac_or_signature_key_information_same : IsFaithful mac_or_signature_key_information_val
mac_or_signature_key_information_same x y h =
    ap whole_mac_or_signature_key_information
    (and_row (one_row unique_identifier_same)
    (and_row (optional_row cryptographic_parameters_same) no_row)
    (x.0, (x.1, tt)) (y.0, (y.1, tt)) (same_record h))

abbrev whole_key_wrapping_data : WrappingMethod ×
    (Option EncryptionKeyInformation ×
    (Option MACOrSignatureKeyInformation ×
    (Option MACOrSignature ×
    (Option IVOrCounterOrNonce × (Option (List Attribute) × Unit {0}))))) → KeyWrappingData
whole_key_wrapping_data t =
    record {
      0 = t.0;
      1 = (t.1).0;
      2 = ((t.1).1).0;
      3 = (((t.1).1).1).0;
      4 = ((((t.1).1).1).1).0;
      5 = (((((t.1).1).1).1).1).0;
    }

pub key_wrapping_data_same : IsFaithful key_wrapping_data_val
key_wrapping_data_same x y h =
    ap whole_key_wrapping_data
    (and_row (one_row wrapping_method_same)
    (and_row (optional_row encryption_key_information_same)
    (and_row (optional_row mac_or_signature_key_information_same)
    (and_row (optional_row mac_or_signature_same)
    (and_row (optional_row iv_or_counter_or_nonce_same)
    (and_row (optional_list_row attribute_same) no_row)))))
    (x.0, (x.1, (x.2, (x.3, (x.4, (x.5, tt)))))) (y.0, (y.1, (y.2, (y.3, (y.4, (y.5, tt))))))
    (same_record h))

abbrev whole_key_wrapping_specification : WrappingMethod ×
    (Option EncryptionKeyInformation ×
    (Option MACOrSignatureKeyInformation × (Option (List Attribute) × Unit {0}))) →
    KeyWrappingSpecification
whole_key_wrapping_specification t =
    record { 0 = t.0; 1 = (t.1).0; 2 = ((t.1).1).0; 3 = (((t.1).1).1).0 }

pub key_wrapping_specification_same : IsFaithful key_wrapping_specification_val
key_wrapping_specification_same x y h =
    ap whole_key_wrapping_specification
    (and_row (one_row wrapping_method_same)
    (and_row (optional_row encryption_key_information_same)
    (and_row (optional_row mac_or_signature_key_information_same)
    (and_row (optional_list_row attribute_same) no_row)))
    (x.0, (x.1, (x.2, (x.3, tt)))) (y.0, (y.1, (y.2, (y.3, tt)))) (same_record h))

abbrev whole_key_value : KeyMaterial × (Option (List Attribute) × Unit {0}) → KeyValue
whole_key_value t = record { 0 = t.0; 1 = (t.1).0 }

pub key_value_same : IsFaithful key_value_val
key_value_same x y h =
    ap whole_key_value (and_row (one_row key_material_same)
    (and_row (optional_list_row attribute_same) no_row)
    (x.0, (x.1, tt)) (y.0, (y.1, tt)) (same_record h))

abbrev whole_key_block : KeyFormatType ×
    (Option KeyCompressionType ×
    (Option KeyValue × (Option CryptographicAlgorithm ×
    (Option CryptographicLength × (Option KeyWrappingData × Unit {0}))))) → KeyBlock
whole_key_block t = record {
  0 = t.0;
  1 = (t.1).0;
  2 = ((t.1).1).0;
  3 = (((t.1).1).1).0;
  4 = ((((t.1).1).1).1).0;
  5 = (((((t.1).1).1).1).1).0;
}

pub key_block_same : IsFaithful key_block_val
key_block_same x y h =
    ap whole_key_block (and_row (one_row key_format_type_same)
    (and_row (optional_row key_compression_type_same)
    (and_row (optional_row key_value_same)
    (and_row (optional_row cryptographic_algorithm_same)
    (and_row (optional_row cryptographic_length_same)
    (and_row (optional_row key_wrapping_data_same) no_row)))))
    (x.0, (x.1, (x.2, (x.3, (x.4, (x.5, tt)))))) (y.0, (y.1, (y.2, (y.3, (y.4, (y.5, tt))))))
    (same_record h))

abbrev whole_symmetric_key : KeyBlock × Unit {0} → SymmetricKey
whole_symmetric_key t = record { 0 = t.0 }

pub symmetric_key_same : IsFaithful symmetric_key_val
symmetric_key_same x y h =
    ap whole_symmetric_key (and_row (one_row key_block_same) no_row
    (x.0, tt) (y.0, tt) (same_record h))

abbrev whole_public_key : KeyBlock × Unit {0} → PublicKey
whole_public_key t = record { 0 = t.0 }

pub public_key_same : IsFaithful public_key_val
public_key_same x y h =
    ap whole_public_key (and_row (one_row key_block_same) no_row
    (x.0, tt) (y.0, tt) (same_record h))

abbrev whole_private_key : KeyBlock × Unit {0} → PrivateKey
whole_private_key t = record { 0 = t.0 }

pub private_key_same : IsFaithful private_key_val
private_key_same x y h =
    ap whole_private_key (and_row (one_row key_block_same) no_row
    (x.0, tt) (y.0, tt) (same_record h))

abbrev whole_template : List Attribute × Unit {0} → Template
whole_template t = record { 0 = t.0 }

pub template_same : IsFaithful template_val
template_same x y h =
    ap whole_template (and_row (list_row attribute_same) no_row
    (x.0, tt) (y.0, tt) (same_record h))

pub managed_object_same : IsFaithful managed_object_val
managed_object_same (objects.SymmetricKey x) (objects.SymmetricKey y) h =
    ap objects.SymmetricKey (symmetric_key_same x y (same_case h).1)
managed_object_same (objects.PublicKey x) (objects.PublicKey y) h =
    ap objects.PublicKey (public_key_same x y (same_case h).1)
managed_object_same (objects.PrivateKey x) (objects.PrivateKey y) h =
    ap objects.PrivateKey (private_key_same x y (same_case h).1)
managed_object_same (objects.Template x) (objects.Template y) h =
    ap objects.Template (template_same x y (same_case h).1)
managed_object_same _ _ h = cc

abbrev whole_revocation_reason : RevocationReasonCode × (Option RevocationMessage × Unit {0}) →
    RevocationReason
whole_revocation_reason t = record { 0 = t.0; 1 = (t.1).0 }

pub revocation_reason_same : IsFaithful revocation_reason_val
revocation_reason_same x y h =
    ap whole_revocation_reason
    (and_row (one_row revocation_reason_code_same)
    (and_row (optional_row revocation_message_same) no_row)
    (x.0, (x.1, tt)) (y.0, (y.1, tt)) (same_record h))
