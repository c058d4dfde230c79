-- The meaning of the typed values of the objects in requests: each is a record of its fields in the
-- order of its table.
use Rattle.kmip_shape.specs.Val.{Val, Bytes, Record, Case, AndField, NoField, One, Many}
use Rattle.kmip_shape.specs.Writes.{optional, optional_list, vals}
use Rattle.kmip_types.specs.Texts.{name_value_val, unique_identifier_val, revocation_message_val}
use Rattle.kmip_enums.specs.NameTypes.{name_type_val}
use Rattle.kmip_types.specs.AttributeNames.{attribute_name_val}
use Rattle.kmip_types.specs.Numbers.{attribute_index_val, cryptographic_length_val}
use Rattle.kmip_types.specs.AttributeValues.{attribute_value_val}
use Rattle.kmip_types.specs.Parameters.{cryptographic_parameters_val}
use Rattle.kmip_types.specs.WrappingMethods.{wrapping_method_val}
use Rattle.kmip_types.specs.KeyMaterials.{key_material_val}
use Rattle.kmip_types.specs.KeyFormatTypes.{key_format_type_val}
use Rattle.kmip_types.specs.KeyCompressionTypes.{key_compression_type_val}
use Rattle.kmip_types.specs.CryptographicAlgorithms.{cryptographic_algorithm_val}
use Rattle.kmip_enums.specs.RevocationReasonCodes.{revocation_reason_code_val}
use Rattle.kmip_request_objects.specs.declared.byte_strings.MACOrSignature.{MACOrSignature}
use Rattle.kmip_request_objects.specs.declared.byte_strings.IVOrCounterOrNonce.{IVOrCounterOrNonce}
use Rattle.kmip_request_objects.specs.declared.name.Name.{Name}
use Rattle.kmip_request_objects.specs.declared.attribute.Attribute.{Attribute}
use Rattle.kmip_request_objects.specs.declared.template_attribute.TemplateAttribute.{TemplateAttribute}
use Rattle.kmip_request_objects.specs.declared.template_attribute.CommonTemplateAttribute.{CommonTemplateAttribute}
use Rattle.kmip_request_objects.specs.declared.template_attribute.PrivateKeyTemplateAttribute.{PrivateKeyTemplateAttribute}
use Rattle.kmip_request_objects.specs.declared.template_attribute.PublicKeyTemplateAttribute.{PublicKeyTemplateAttribute}
use Rattle.kmip_request_objects.specs.declared.key_wrapping.EncryptionKeyInformation.{EncryptionKeyInformation}
use Rattle.kmip_request_objects.specs.declared.key_wrapping.MACOrSignatureKeyInformation.{MACOrSignatureKeyInformation}
use Rattle.kmip_request_objects.specs.declared.key_wrapping.KeyWrappingData.{KeyWrappingData}
use Rattle.kmip_request_objects.specs.declared.key_wrapping.KeyWrappingSpecification.{KeyWrappingSpecification}
use Rattle.kmip_request_objects.specs.declared.key_block.KeyValue.{KeyValue}
use Rattle.kmip_request_objects.specs.declared.key_block.KeyBlock.{KeyBlock}
use Rattle.kmip_request_objects.specs.declared.revocation_reason.RevocationReason.{RevocationReason}
use Rattle.kmip_request_objects.specs.declared.managed_object.ManagedObject.{ManagedObject}
use Rattle.kmip_request_objects.specs.declared.managed_object.ManagedObject.TheVariants as objects
use Rattle.kmip_request_objects.specs.declared.managed_object.SymmetricKey.{SymmetricKey}
use Rattle.kmip_request_objects.specs.declared.managed_object.PublicKey.{PublicKey}
use Rattle.kmip_request_objects.specs.declared.managed_object.PrivateKey.{PrivateKey}
use Rattle.kmip_request_objects.specs.declared.managed_object.Template.{Template}

abbrev pub mac_or_signature_val : MACOrSignature → Val
mac_or_signature_val x = Bytes x.0

abbrev pub iv_or_counter_or_nonce_val : IVOrCounterOrNonce → Val
iv_or_counter_or_nonce_val x = Bytes x.0

abbrev pub name_val : Name → Val
name_val x = Record
    (AndField (One (name_value_val x.0))
    (AndField (One (name_type_val x.1))
    NoField))

abbrev pub attribute_val : Attribute → Val
attribute_val x = Record
    (AndField (One (attribute_name_val x.0))
    (AndField (optional attribute_index_val x.1)
    (AndField (One (attribute_value_val x.2))
    NoField)))

abbrev pub template_attribute_val : TemplateAttribute → Val
template_attribute_val x = Record
    (AndField (optional_list name_val x.0)
    (AndField (optional_list attribute_val x.1)
    NoField))

abbrev pub common_template_attribute_val : CommonTemplateAttribute → Val
common_template_attribute_val x = Record
    (AndField (optional_list name_val x.0)
    (AndField (optional_list attribute_val x.1)
    NoField))

abbrev pub private_key_template_attribute_val : PrivateKeyTemplateAttribute → Val
private_key_template_attribute_val x = Record
    (AndField (optional_list name_val x.0)
    (AndField (optional_list attribute_val x.1)
    NoField))

abbrev pub public_key_template_attribute_val : PublicKeyTemplateAttribute → Val
public_key_template_attribute_val x = Record
    (AndField (optional_list name_val x.0)
    (AndField (optional_list attribute_val x.1)
    NoField))

abbrev pub encryption_key_information_val : EncryptionKeyInformation → Val
encryption_key_information_val x = Record
    (AndField (One (unique_identifier_val x.0))
    (AndField (optional cryptographic_parameters_val x.1)
    NoField))

abbrev pub mac_or_signature_key_information_val : MACOrSignatureKeyInformation → Val
mac_or_signature_key_information_val x = Record
    (AndField (One (unique_identifier_val x.0))
    (AndField (optional cryptographic_parameters_val x.1)
    NoField))

abbrev pub key_wrapping_data_val : KeyWrappingData → Val
key_wrapping_data_val x = Record
    (AndField (One (wrapping_method_val x.0))
    (AndField (optional encryption_key_information_val x.1)
    (AndField (optional mac_or_signature_key_information_val x.2)
    (AndField (optional mac_or_signature_val x.3)
    (AndField (optional iv_or_counter_or_nonce_val x.4)
    (AndField (optional_list attribute_val x.5)
    NoField))))))

abbrev pub key_wrapping_specification_val : KeyWrappingSpecification → Val
key_wrapping_specification_val x = Record
    (AndField (One (wrapping_method_val x.0))
    (AndField (optional encryption_key_information_val x.1)
    (AndField (optional mac_or_signature_key_information_val x.2)
    (AndField (optional_list attribute_val x.3)
    NoField))))

abbrev pub key_value_val : KeyValue → Val
key_value_val x = Record
    (AndField (One (key_material_val x.0))
    (AndField (optional_list attribute_val x.1)
    NoField))

abbrev pub key_block_val : KeyBlock → Val
key_block_val x = Record
    (AndField (One (key_format_type_val x.0))
    (AndField (optional key_compression_type_val x.1)
    (AndField (optional key_value_val x.2)
    (AndField (optional cryptographic_algorithm_val x.3)
    (AndField (optional cryptographic_length_val x.4)
    (AndField (optional key_wrapping_data_val x.5)
    NoField))))))

abbrev pub symmetric_key_val : SymmetricKey → Val
symmetric_key_val x = Record
    (AndField (One (key_block_val x.0))
    NoField)

abbrev pub public_key_val : PublicKey → Val
public_key_val x = Record
    (AndField (One (key_block_val x.0))
    NoField)

abbrev pub private_key_val : PrivateKey → Val
private_key_val x = Record
    (AndField (One (key_block_val x.0))
    NoField)

abbrev pub template_val : Template → Val
template_val x = Record
    (AndField (Many (vals attribute_val x.0))
    NoField)

-- an object is the case of its tag
abbrev pub managed_object_val : ManagedObject → Val
managed_object_val (objects.SymmetricKey x) = Case 1 (symmetric_key_val x)
managed_object_val (objects.PublicKey x) = Case 2 (public_key_val x)
managed_object_val (objects.PrivateKey x) = Case 3 (private_key_val x)
managed_object_val (objects.Template x) = Case 4 (template_val x)

abbrev pub revocation_reason_val : RevocationReason → Val
revocation_reason_val x = Record
    (AndField (One (revocation_reason_code_val x.0))
    (AndField (optional revocation_message_val x.1)
    NoField))
