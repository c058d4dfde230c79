-- The requests of the calls that a client has no helper for.
use Rattle.std.specs.Prelude.{ℕ, ℤ, pos, List, [], ◌∷◌, Some, None, codes}
use Rattle.kmip_enums.specs.declared.object_type.ObjectType.TheVariants.{SymmetricKey}
use Rattle.kmip_enums.specs.declared.name_type.NameType.TheVariants.{UninterpretedTextString}
use Rattle.kmip_types.specs.TheCryptographicAlgorithm.{CryptographicAlgorithm}
use Rattle.kmip_types.specs.declared.attribute_value.AttributeValue.TheVariants as values
use Rattle.kmip_request.specs.Constructors.{attribute_of}
use Rattle.kmip_request.specs.TheAttribute.{Attribute}
use Rattle.kmip_request.specs.declared.payload.RequestPayload.{RequestPayload}

-- the attribute Name, of the type Uninterpreted Text String (KMIP 1.0, 3.2)
abbrev pub name_attribute : List ℕ → Attribute
name_attribute name =
    attribute_of (codes "Name") (values.Name (record { 0 = name }) UninterpretedTextString)

-- Locate, for the objects with this name (KMIP 1.0, 4.8)
abbrev pub locate_request : List ℕ → RequestPayload
locate_request name = RequestPayload.Locate (name_attribute name ∷ [])

-- Get Attributes, for all attributes of an object (KMIP 1.0, 4.11)
abbrev pub attributes_request : List ℕ → RequestPayload
attributes_request id = RequestPayload.GetAttributes (Some (record { 0 = id })) None

-- the attributes of an AES key: its algorithm, its length in bits, the uses Encrypt and Decrypt,
-- and its name (KMIP 1.0, 3.4, 3.5, 3.14 and 3.2)
abbrev pub aes_attributes : ℤ → List ℕ → List Attribute
aes_attributes key_length name =
    attribute_of (codes "Cryptographic Algorithm")
    (values.CryptographicAlgorithm CryptographicAlgorithm.AES)
    ∷ attribute_of (codes "Cryptographic Length") (values.Integer key_length)
    ∷ attribute_of (codes "Cryptographic Usage Mask") (values.Integer (pos 0xC))
    ∷ name_attribute name
    ∷ []

-- Create, for an AES key (KMIP 1.0, 4.1)
abbrev pub create_aes_request : ℤ → List ℕ → RequestPayload
create_aes_request key_length name =
    RequestPayload.Create SymmetricKey
    (record { 0 = None; 1 = Some (aes_attributes key_length name) })

-- Discover Versions, for all versions that the server supports (KMIP 1.1, 4.26)
abbrev pub discover_request : RequestPayload
discover_request = RequestPayload.DiscoverVersions []
