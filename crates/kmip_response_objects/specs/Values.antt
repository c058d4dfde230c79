-- The typed values, as contracts see them: each a record of its fields in the order of its table.
use Rattle.kmip_shape.specs.Val.{Val, Number, Bytes, Record, Case, AndField, NoField, One}
use Rattle.kmip_shape.specs.Writes.{optional, optional_list}
use Rattle.kmip_types.specs.Texts.{name_value_val, unique_identifier_val}
use Rattle.kmip_enums.specs.NameTypes.{name_type_val}
use Rattle.kmip_types.specs.AttributeNames.{attribute_name_val}
use Rattle.kmip_types.specs.Numbers.{attribute_index_val}
use Rattle.kmip_types.specs.AttributeValues.{attribute_value_val}
use Rattle.kmip_types.specs.Parameters.{cryptographic_parameters_val}
use Rattle.kmip_types.specs.WrappingMethods.{wrapping_method_val}
use Rattle.kmip_types.specs.KeyMaterials.{key_material_val}
use Rattle.kmip_types.specs.KeyFormatTypes.{key_format_type_val}
use Rattle.kmip_types.specs.KeyCompressionTypes.{key_compression_type_val}
use Rattle.kmip_types.specs.CryptographicAlgorithms.{cryptographic_algorithm_val}
use Rattle.kmip_enums.specs.CertificateTypes.{certificate_type_val}
use Rattle.kmip_response_objects.specs.declared.attribute.Attribute.{Attribute}
use Rattle.kmip_response_objects.specs.declared.name.Name.{Name}
use Rattle.kmip_response_objects.specs.declared.template_attribute.TemplateAttribute.{TemplateAttribute}
use Rattle.kmip_response_objects.specs.declared.key_wrapping.EncryptionKeyInformation.{EncryptionKeyInformation}
use Rattle.kmip_response_objects.specs.declared.key_wrapping.MACOrSignatureKeyInformation.{MACOrSignatureKeyInformation}
use Rattle.kmip_response_objects.specs.declared.key_wrapping.KeyWrappingData.{KeyWrappingData}
use Rattle.kmip_response_objects.specs.declared.key_block.KeyValue.{KeyValue}
use Rattle.kmip_response_objects.specs.declared.key_block.KeyBlock.{KeyBlock}
use Rattle.kmip_response_objects.specs.declared.managed_object.Certificate.{Certificate}
use Rattle.kmip_response_objects.specs.declared.managed_object.SymmetricKey.{SymmetricKey}
use Rattle.kmip_response_objects.specs.declared.managed_object.PublicKey.{PublicKey}
use Rattle.kmip_response_objects.specs.declared.managed_object.PrivateKey.{PrivateKey}
use Rattle.kmip_response_objects.specs.declared.managed_object.ManagedObject.{ManagedObject}
use Rattle.kmip_response_objects.specs.declared.managed_object.ManagedObject.TheVariants as objects

abbrev pub name_val : Name → Val
name_val x = Record
    (AndField (One (name_value_val x.name))
    (AndField (One (name_type_val x.name_type))
    NoField))

abbrev pub attribute_val : Attribute → Val
attribute_val x = Record
    (AndField (One (attribute_name_val x.name))
    (AndField (optional attribute_index_val x.index)
    (AndField (One (attribute_value_val x.value))
    NoField)))

abbrev pub template_attribute_val : TemplateAttribute → Val
template_attribute_val x = Record
    (AndField (optional_list name_val x.name)
    (AndField (optional_list attribute_val x.attributes)
    NoField))

abbrev pub encryption_key_information_val : EncryptionKeyInformation → Val
encryption_key_information_val x = Record
    (AndField (One (unique_identifier_val x.unique_identifier))
    (AndField (optional cryptographic_parameters_val x.cryptographic_parameters)
    NoField))

abbrev pub mac_or_signature_key_information_val : MACOrSignatureKeyInformation → Val
mac_or_signature_key_information_val x = Record
    (AndField (One (unique_identifier_val x.unique_identifier))
    (AndField (optional cryptographic_parameters_val x.cryptographic_parameters)
    NoField))

abbrev pub key_wrapping_data_val : KeyWrappingData → Val
key_wrapping_data_val x = Record
    (AndField (One (wrapping_method_val x.wrapping_method))
    (AndField (optional encryption_key_information_val x.encryption_key_information)
    (AndField (optional mac_or_signature_key_information_val x.mac_or_signature_key_information)
    (AndField (optional Bytes x.mac_or_signature)
    (AndField (optional Bytes x.iv_or_counter_or_nonce)
    NoField)))))

abbrev pub key_value_val : KeyValue → Val
key_value_val x = Record
    (AndField (One (key_material_val x.key_material))
    (AndField (optional_list attribute_val x.attributes)
    NoField))

abbrev pub key_block_val : KeyBlock → Val
key_block_val x = Record
    (AndField (One (key_format_type_val x.key_format_type))
    (AndField (optional key_compression_type_val x.key_compression_type)
    (AndField (One (key_value_val x.key_value))
    (AndField (optional cryptographic_algorithm_val x.cryptographic_algorithm)
    (AndField (optional Number x.cryptographic_length)
    (AndField (optional key_wrapping_data_val x.key_wrapping_data)
    NoField))))))

abbrev pub certificate_val : Certificate → Val
certificate_val x = Record
    (AndField (One (certificate_type_val x.certificate_type))
    (AndField (One (Bytes x.certificate_value))
    NoField))

abbrev pub symmetric_key_val : SymmetricKey → Val
symmetric_key_val x = Record
    (AndField (One (key_block_val x.key_block))
    NoField)

abbrev pub public_key_val : PublicKey → Val
public_key_val x = Record
    (AndField (One (key_block_val x.key_block))
    NoField)

abbrev pub private_key_val : PrivateKey → Val
private_key_val x = Record
    (AndField (One (key_block_val x.key_block))
    NoField)

-- an object is the case with the number of its object type
abbrev pub managed_object_val : ManagedObject → Val
managed_object_val (objects.Certificate x) = Case 1 (certificate_val x)
managed_object_val (objects.SymmetricKey x) = Case 2 (symmetric_key_val x)
managed_object_val (objects.PublicKey x) = Case 3 (public_key_val x)
managed_object_val (objects.PrivateKey x) = Case 4 (private_key_val x)
