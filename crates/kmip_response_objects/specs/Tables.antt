-- The tables of the objects of responses: for each type its fields in order, with their tags,
-- marks and types.
use Rattle.std.specs.Prelude.{[], ◌∷◌, Some, codes}
use Rattle.kmip_tags.specs.Tags.{ATTRIBUTE, ATTRIBUTE_INDEX, ATTRIBUTE_NAME, ATTRIBUTE_VALUE, CERTIFICATE, CERTIFICATE_TYPE, CERTIFICATE_VALUE, CRYPTOGRAPHIC_ALGORITHM, CRYPTOGRAPHIC_LENGTH, CRYPTOGRAPHIC_PARAMETERS, ENCRYPTION_KEY_INFORMATION, IV_COUNTER_NONCE, KEY_BLOCK, KEY_COMPRESSION_TYPE, KEY_FORMAT_TYPE, KEY_MATERIAL, KEY_VALUE, KEY_WRAPPING_DATA, MAC_SIGNATURE, MAC_SIGNATURE_KEY_INFORMATION, NAME, NAME_TYPE, NAME_VALUE, PRIVATE_KEY, PUBLIC_KEY, SYMMETRIC_KEY, UNIQUE_IDENTIFIER, WRAPPING_METHOD}
use Rattle.kmip_wire.specs.declared.kind.Kind.TheVariants.{Integer, TextString, ByteString}
use Rattle.kmip_shape.specs.Shape.{Shape, Scalar, OneOf, Rows, RowsOrBytes, NoRow, AndRow, Required, Optional, OptionalList, Plain, Chooser, Chosen, Under, Cases, NoCase, AndCase, ByNumbers}
use Rattle.kmip_enums.specs.NameTypes.{name_types}
use Rattle.kmip_types.specs.AttributeValues.{attribute_value}
use Rattle.kmip_types.specs.Parameters.{cryptographic_parameters}
use Rattle.kmip_types.specs.WrappingMethods.{wrapping_methods}
use Rattle.kmip_types.specs.KeyMaterials.{key_material, wrapped_case}
use Rattle.kmip_types.specs.KeyFormatTypes.{key_format_types}
use Rattle.kmip_types.specs.KeyCompressionTypes.{key_compression_types}
use Rattle.kmip_types.specs.CryptographicAlgorithms.{cryptographic_algorithms}
use Rattle.kmip_enums.specs.CertificateTypes.{certificate_types}

-- Name (KMIP 1.0, 3.2)
abbrev pub name : Shape
name = Rows
    (AndRow (codes "name") (Under NAME_VALUE) Required Plain (Scalar TextString)
    (AndRow (codes "name_type") (Under NAME_TYPE) Required Plain (OneOf name_types)
    NoRow))

-- Attribute (KMIP 1.0, 2.1.1)
abbrev pub attribute : Shape
attribute = Rows
    (AndRow (codes "name") (Under ATTRIBUTE_NAME) Required Chooser (Scalar TextString)
    (AndRow (codes "index") (Under ATTRIBUTE_INDEX) Optional Plain (Scalar Integer)
    (AndRow (codes "value") (Under ATTRIBUTE_VALUE) Required Chosen attribute_value
    NoRow)))

-- Template-Attribute (KMIP 1.0, 2.1.8)
abbrev pub template_attribute : Shape
template_attribute = Rows
    (AndRow (codes "name") (Under NAME) OptionalList Plain name
    (AndRow (codes "attributes") (Under ATTRIBUTE) OptionalList Plain attribute
    NoRow))

-- Encryption Key Information (KMIP 1.0, 2.1.5)
abbrev pub encryption_key_information : Shape
encryption_key_information = Rows
    (AndRow (codes "unique_identifier") (Under UNIQUE_IDENTIFIER) Required Plain (Scalar TextString)
    (AndRow (codes "cryptographic_parameters") (Under CRYPTOGRAPHIC_PARAMETERS) Optional Plain
    cryptographic_parameters
    NoRow))

-- MAC/Signature Key Information (KMIP 1.0, 2.1.5)
abbrev pub mac_or_signature_key_information : Shape
mac_or_signature_key_information = Rows
    (AndRow (codes "unique_identifier") (Under UNIQUE_IDENTIFIER) Required Plain (Scalar TextString)
    (AndRow (codes "cryptographic_parameters") (Under CRYPTOGRAPHIC_PARAMETERS) Optional Plain
    cryptographic_parameters
    NoRow))

-- Key Wrapping Data (KMIP 1.0, 2.1.5)
abbrev pub key_wrapping_data : Shape
key_wrapping_data = Rows
    (AndRow (codes "wrapping_method") (Under WRAPPING_METHOD) Required Plain
    (OneOf wrapping_methods)
    (AndRow (codes "encryption_key_information") (Under ENCRYPTION_KEY_INFORMATION) Optional Plain
    encryption_key_information
    (AndRow (codes "mac_or_signature_key_information") (Under MAC_SIGNATURE_KEY_INFORMATION)
    Optional Plain mac_or_signature_key_information
    (AndRow (codes "mac_or_signature") (Under MAC_SIGNATURE) Optional Plain (Scalar ByteString)
    (AndRow (codes "iv_or_counter_or_nonce") (Under IV_COUNTER_NONCE) Optional Plain
    (Scalar ByteString)
    NoRow)))))

-- Key Value (KMIP 1.0, 2.1.4); as one Byte String it is a wrapped key
abbrev pub key_value : Shape
key_value = RowsOrBytes wrapped_case
    (AndRow (codes "key_material") (Under KEY_MATERIAL) Required Plain key_material
    (AndRow (codes "attributes") (Under ATTRIBUTE) OptionalList Plain attribute
    NoRow))

-- Key Block (KMIP 1.0, 2.1.3)
abbrev pub key_block : Shape
key_block = Rows
    (AndRow (codes "key_format_type") (Under KEY_FORMAT_TYPE) Required Chooser
    (OneOf key_format_types)
    (AndRow (codes "key_compression_type") (Under KEY_COMPRESSION_TYPE) Optional Plain
    (OneOf key_compression_types)
    (AndRow (codes "key_value") (Under KEY_VALUE) Required Chosen key_value
    (AndRow (codes "cryptographic_algorithm") (Under CRYPTOGRAPHIC_ALGORITHM) Optional Plain
    (OneOf cryptographic_algorithms)
    (AndRow (codes "cryptographic_length") (Under CRYPTOGRAPHIC_LENGTH) Optional Plain
    (Scalar Integer)
    (AndRow (codes "key_wrapping_data") (Under KEY_WRAPPING_DATA) Optional Plain key_wrapping_data
    NoRow))))))

-- Certificate (KMIP 1.0, 2.2.1)
abbrev pub certificate : Shape
certificate = Rows
    (AndRow (codes "certificate_type") (Under CERTIFICATE_TYPE) Required Plain
    (OneOf certificate_types)
    (AndRow (codes "certificate_value") (Under CERTIFICATE_VALUE) Required Plain (Scalar ByteString)
    NoRow))

-- Symmetric Key (KMIP 1.0, 2.2.2)
abbrev pub symmetric_key : Shape
symmetric_key = Rows
    (AndRow (codes "key_block") (Under KEY_BLOCK) Required Plain key_block
    NoRow)

-- Public Key (KMIP 1.0, 2.2.3)
abbrev pub public_key : Shape
public_key = Rows
    (AndRow (codes "key_block") (Under KEY_BLOCK) Required Plain key_block
    NoRow)

-- Private Key (KMIP 1.0, 2.2.4)
abbrev pub private_key : Shape
private_key = Rows
    (AndRow (codes "key_block") (Under KEY_BLOCK) Required Plain key_block
    NoRow)

-- The payload's object type chooses by its number which object it holds; each stands under its
-- own tag (KMIP 1.0, 2.2).
abbrev pub managed_objects : Cases
managed_objects =
    AndCase 1 (codes "Certificate") (ByNumbers (1 ∷ [])) (Some CERTIFICATE) certificate
    (AndCase 2 (codes "SymmetricKey") (ByNumbers (2 ∷ [])) (Some SYMMETRIC_KEY) symmetric_key
    (AndCase 3 (codes "PublicKey") (ByNumbers (3 ∷ [])) (Some PUBLIC_KEY) public_key
    (AndCase 4 (codes "PrivateKey") (ByNumbers (4 ∷ [])) (Some PRIVATE_KEY) private_key
    NoCase)))
