pub mod Parameters
pub mod AttributeValues
pub mod AttributesFall
pub mod AttributesShown
pub mod SameValues
pub use Rattle.kmip_codes.specs.CryptographicAlgorithms
pub use Rattle.kmip_codes.specs.KeyCompressionTypes
pub use Rattle.kmip_codes.specs.KeyFormatTypes
pub use Rattle.kmip_codes.specs.DigitalSignatureAlgorithms
pub use Rattle.kmip_codes.specs.BlockCipherModes
pub use Rattle.kmip_codes.specs.PaddingMethods
pub use Rattle.kmip_codes.specs.HashingAlgorithms
pub use Rattle.kmip_codes.specs.KeyRoleTypes
pub use Rattle.kmip_codes.specs.WrappingMethods
pub use Rattle.kmip_codes.specs.UsageMask
pub use Rattle.kmip_keys.specs.TransparentKeys
pub use Rattle.kmip_keys.specs.KeyMaterials
pub use Rattle.kmip_names.specs.AttributeNames
pub use Rattle.kmip_names.specs.ByteStrings
pub use Rattle.kmip_names.specs.Numbers
pub use Rattle.kmip_names.specs.Texts
pub use Rattle.kmip_names.specs.Parameters as ParameterFields
pub use Rattle.kmip_codes.specs.declared.cryptographic_algorithm.CryptographicAlgorithm as TheCryptographicAlgorithm
pub use Rattle.kmip_codes.specs.declared.key_compression_type.KeyCompressionType as TheKeyCompressionType
pub use Rattle.kmip_codes.specs.declared.key_format_type.KeyFormatType as TheKeyFormatType
pub use Rattle.kmip_codes.specs.declared.digital_signature_algorithm.DigitalSignatureAlgorithm as TheDigitalSignatureAlgorithm
pub use Rattle.kmip_codes.specs.declared.block_cipher_mode.BlockCipherMode as TheBlockCipherMode
pub use Rattle.kmip_codes.specs.declared.padding_method.PaddingMethod as ThePaddingMethod
pub use Rattle.kmip_codes.specs.declared.hashing_algorithm.HashingAlgorithm as TheHashingAlgorithm
pub use Rattle.kmip_codes.specs.declared.key_role_type.KeyRoleType as TheKeyRoleType
pub use Rattle.kmip_codes.specs.declared.wrapping_method.WrappingMethod as TheWrappingMethod
pub use Rattle.kmip_codes.specs.declared.usage_mask.CryptographicUsageMask as TheCryptographicUsageMask
pub use Rattle.kmip_names.specs.declared.attribute_name.AttributeName as TheAttributeName
pub use Rattle.kmip_names.specs.declared.texts.UniqueIdentifier as TheUniqueIdentifier
pub use Rattle.kmip_names.specs.declared.texts.NameValue as TheNameValue
pub use Rattle.kmip_names.specs.declared.texts.RevocationMessage as TheRevocationMessage
pub use Rattle.kmip_names.specs.declared.texts.LinkedObjectIdentifier as TheLinkedObjectIdentifier
pub use Rattle.kmip_names.specs.declared.texts.ApplicationNamespace as TheApplicationNamespace
pub use Rattle.kmip_names.specs.declared.texts.ApplicationData as TheApplicationData
pub use Rattle.kmip_names.specs.declared.numbers.AttributeIndex as TheAttributeIndex
pub use Rattle.kmip_names.specs.declared.numbers.DataLength as TheDataLength
pub use Rattle.kmip_names.specs.declared.numbers.CryptographicLength as TheCryptographicLength
pub use Rattle.kmip_names.specs.declared.numbers.CompromiseOccurrenceDate as TheCompromiseOccurrenceDate
pub use Rattle.kmip_names.specs.declared.parameters.IVLength as TheIVLength
pub use Rattle.kmip_names.specs.declared.parameters.TagLength as TheTagLength
pub use Rattle.kmip_names.specs.declared.parameters.FixedFieldLength as TheFixedFieldLength
pub use Rattle.kmip_names.specs.declared.parameters.InvocationFieldLength as TheInvocationFieldLength
pub use Rattle.kmip_names.specs.declared.parameters.CounterLength as TheCounterLength
pub use Rattle.kmip_names.specs.declared.parameters.InitialCounterValue as TheInitialCounterValue
pub use Rattle.kmip_names.specs.declared.parameters.RandomIV as TheRandomIV
pub use Rattle.kmip_names.specs.declared.byte_strings.Data as TheData
pub use Rattle.kmip_names.specs.declared.byte_strings.UniqueBatchItemID as TheUniqueBatchItemID
pub use Rattle.kmip_keys.specs.declared.key_material.KeyMaterial as TheKeyMaterial
pub use Rattle.kmip_keys.specs.declared.transparent_keys.TransparentSymmetricKey as TheTransparentSymmetricKey
pub use Rattle.kmip_keys.specs.declared.transparent_keys.TransparentDSAPrivateKey as TheTransparentDSAPrivateKey
pub use Rattle.kmip_keys.specs.declared.transparent_keys.TransparentDSAPublicKey as TheTransparentDSAPublicKey
pub use Rattle.kmip_keys.specs.declared.transparent_keys.TransparentRSAPrivateKey as TheTransparentRSAPrivateKey
pub use Rattle.kmip_keys.specs.declared.transparent_keys.TransparentRSAPublicKey as TheTransparentRSAPublicKey
pub use Rattle.kmip_keys.specs.declared.transparent_keys.TransparentDHPrivateKey as TheTransparentDHPrivateKey
pub use Rattle.kmip_keys.specs.declared.transparent_keys.TransparentDHPublicKey as TheTransparentDHPublicKey
