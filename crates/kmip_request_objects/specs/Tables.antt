-- The tables of the objects in requests: each type's fields in order, with tags, marks and types.
-- A table within another one is unfolded only in proofs that look into it.
use Rattle.std.specs.Prelude.{Some, codes}
use Rattle.kmip_tags.specs.Tags.{ATTRIBUTE, ATTRIBUTE_INDEX, ATTRIBUTE_NAME, ATTRIBUTE_VALUE, CRYPTOGRAPHIC_ALGORITHM, CRYPTOGRAPHIC_LENGTH, CRYPTOGRAPHIC_PARAMETERS, ENCRYPTION_KEY_INFORMATION, IV_COUNTER_NONCE, KEY_BLOCK, KEY_COMPRESSION_TYPE, KEY_FORMAT_TYPE, KEY_MATERIAL, KEY_VALUE, KEY_WRAPPING_DATA, MAC_SIGNATURE, MAC_SIGNATURE_KEY_INFORMATION, NAME, NAME_TYPE, NAME_VALUE, PRIVATE_KEY, PUBLIC_KEY, REVOCATION_MESSAGE, REVOCATION_REASON_CODE, SYMMETRIC_KEY, TEMPLATE, UNIQUE_IDENTIFIER, WRAPPING_METHOD}
use Rattle.kmip_wire.specs.declared.kind.Kind.TheVariants.{Integer, TextString, ByteString}
use Rattle.kmip_shape.specs.Shape.{Shape, Scalar, OneOf, Rows, NoRow, AndRow, Required, Optional, AnyNumber, OptionalList, Plain, Chooser, Chosen, Under, Cases, NoCase, AndCase, ByTag}
use Rattle.kmip_enums.specs.NameTypes.{name_types}
use Rattle.kmip_types.specs.AttributeValues.{attribute_value}
use Rattle.kmip_types.specs.Parameters.{cryptographic_parameters}
use Rattle.kmip_types.specs.WrappingMethods.{wrapping_methods}
use Rattle.kmip_types.specs.KeyMaterials.{key_material}
use Rattle.kmip_types.specs.KeyFormatTypes.{key_format_types}
use Rattle.kmip_types.specs.KeyCompressionTypes.{key_compression_types}
use Rattle.kmip_types.specs.CryptographicAlgorithms.{cryptographic_algorithms}
use Rattle.kmip_enums.specs.RevocationReasonCodes.{revocation_reason_codes}

-- Name (KMIP 1.0, 3.2)
unfoldable pub name : Shape
name = Rows
    (AndRow (codes "name_value") (Under NAME_VALUE) Required Plain (Scalar TextString)
    (AndRow (codes "name_type") (Under NAME_TYPE) Required Plain (OneOf name_types)
    NoRow))

-- Attribute (KMIP 1.0, 2.1.1)
unfoldable pub attribute : Shape
attribute = Rows
    (AndRow (codes "attribute_name") (Under ATTRIBUTE_NAME) Required Chooser (Scalar TextString)
    (AndRow (codes "attribute_index") (Under ATTRIBUTE_INDEX) Optional Plain (Scalar Integer)
    (AndRow (codes "attribute_value") (Under ATTRIBUTE_VALUE) Required Chosen attribute_value
    NoRow)))

-- Template-Attribute, Common Template-Attribute, Private Key Template-Attribute and
-- Public Key Template-Attribute (KMIP 1.0, 2.1.8)
unfoldable pub template_attribute : Shape
template_attribute = Rows
    (AndRow (codes "names") (Under NAME) OptionalList Plain name
    (AndRow (codes "attributes") (Under ATTRIBUTE) OptionalList Plain attribute
    NoRow))

-- Encryption Key Information (KMIP 1.0, 2.1.5)
unfoldable pub encryption_key_information : Shape
encryption_key_information = Rows
    (AndRow (codes "unique_identifier") (Under UNIQUE_IDENTIFIER) Required Plain (Scalar TextString)
    (AndRow (codes "cryptographic_parameters") (Under CRYPTOGRAPHIC_PARAMETERS) Optional Plain
    cryptographic_parameters
    NoRow))

-- MAC/Signature Key Information (KMIP 1.0, 2.1.5)
unfoldable pub mac_or_signature_key_information : Shape
mac_or_signature_key_information = Rows
    (AndRow (codes "unique_identifier") (Under UNIQUE_IDENTIFIER) Required Plain (Scalar TextString)
    (AndRow (codes "cryptographic_parameters") (Under CRYPTOGRAPHIC_PARAMETERS) Optional Plain
    cryptographic_parameters
    NoRow))

-- Key Wrapping Data (KMIP 1.0, 2.1.5)
unfoldable pub key_wrapping_data : Shape
key_wrapping_data = Rows
    (AndRow (codes "wrapping_method") (Under WRAPPING_METHOD) Required Plain
    (OneOf wrapping_methods)
    (AndRow (codes "encryption_key_information") (Under ENCRYPTION_KEY_INFORMATION) Optional Plain
    encryption_key_information
    (AndRow (codes "mac_or_signature_key_information") (Under MAC_SIGNATURE_KEY_INFORMATION)
    Optional Plain mac_or_signature_key_information
    (AndRow (codes "mac_or_signature") (Under MAC_SIGNATURE) Optional Plain (Scalar ByteString)
    (AndRow (codes "iv_or_counter_or_nonce") (Under IV_COUNTER_NONCE) Optional Plain
    (Scalar ByteString)
    (AndRow (codes "attributes") (Under ATTRIBUTE) OptionalList Plain attribute
    NoRow))))))

-- Key Wrapping Specification (KMIP 1.0, 2.1.6)
unfoldable pub key_wrapping_specification : Shape
key_wrapping_specification = Rows
    (AndRow (codes "wrapping_method") (Under WRAPPING_METHOD) Required Plain
    (OneOf wrapping_methods)
    (AndRow (codes "encryption_key_information") (Under ENCRYPTION_KEY_INFORMATION) Optional Plain
    encryption_key_information
    (AndRow (codes "mac_or_signature_key_information") (Under MAC_SIGNATURE_KEY_INFORMATION)
    Optional Plain mac_or_signature_key_information
    (AndRow (codes "attributes") (Under ATTRIBUTE) OptionalList Plain attribute
    NoRow))))

-- Key Value (KMIP 1.0, 2.1.4)
unfoldable pub key_value : Shape
key_value = Rows
    (AndRow (codes "key_material") (Under KEY_MATERIAL) Required Plain key_material
    (AndRow (codes "attributes") (Under ATTRIBUTE) OptionalList Plain attribute
    NoRow))

-- Key Block (KMIP 1.0, 2.1.3)
unfoldable pub key_block : Shape
key_block = Rows
    (AndRow (codes "key_format_type") (Under KEY_FORMAT_TYPE) Required Chooser
    (OneOf key_format_types)
    (AndRow (codes "key_compression_type") (Under KEY_COMPRESSION_TYPE) Optional Plain
    (OneOf key_compression_types)
    (AndRow (codes "key_value") (Under KEY_VALUE) Optional Chosen key_value
    (AndRow (codes "cryptographic_algorithm") (Under CRYPTOGRAPHIC_ALGORITHM) Optional Plain
    (OneOf cryptographic_algorithms)
    (AndRow (codes "cryptographic_length") (Under CRYPTOGRAPHIC_LENGTH) Optional Plain
    (Scalar Integer)
    (AndRow (codes "key_wrapping_data") (Under KEY_WRAPPING_DATA) Optional Plain key_wrapping_data
    NoRow))))))

-- Symmetric Key (KMIP 1.0, 2.2.2)
abbrev pub symmetric_key : Shape
symmetric_key = Rows
    (AndRow (codes "key_block") (Under KEY_BLOCK) Required Plain key_block
    NoRow)

-- Public Key (KMIP 1.0, 2.2.3)
abbrev pub public_key : Shape
public_key = Rows
    (AndRow (codes "key_block") (Under KEY_BLOCK) Required Plain key_block
    NoRow)

-- Private Key (KMIP 1.0, 2.2.4)
abbrev pub private_key : Shape
private_key = Rows
    (AndRow (codes "key_block") (Under KEY_BLOCK) Required Plain key_block
    NoRow)

-- Template (KMIP 1.0, 2.2.6)
abbrev pub template : Shape
template = Rows
    (AndRow (codes "attributes") (Under ATTRIBUTE) AnyNumber Plain attribute
    NoRow)

-- the object that is registered, chosen by its own tag (KMIP 1.0, 2.2)
abbrev pub managed_objects : Cases
managed_objects =
    AndCase 1 (codes "SymmetricKey") (ByTag SYMMETRIC_KEY) (Some SYMMETRIC_KEY) symmetric_key
    (AndCase 2 (codes "PublicKey") (ByTag PUBLIC_KEY) (Some PUBLIC_KEY) public_key
    (AndCase 3 (codes "PrivateKey") (ByTag PRIVATE_KEY) (Some PRIVATE_KEY) private_key
    (AndCase 4 (codes "Template") (ByTag TEMPLATE) (Some TEMPLATE) template
    NoCase)))

-- Revocation Reason (KMIP 1.0, 3.26)
unfoldable pub revocation_reason : Shape
revocation_reason = Rows
    (AndRow (codes "revocation_reason_code") (Under REVOCATION_REASON_CODE) Required Plain
    (OneOf revocation_reason_codes)
    (AndRow (codes "revocation_message") (Under REVOCATION_MESSAGE) Optional Plain
    (Scalar TextString)
    NoRow))
