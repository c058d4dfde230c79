-- The requests that the helpers make.
use Rattle.std.specs.Prelude.{ℕ, ℤ, pos, List, [], ◌∷◌, Some, None, codes}
use Rattle.kmip_enums.specs.declared.query_function.QueryFunction.{QueryFunction}
use Rattle.kmip_enums.specs.declared.revocation_reason_code.RevocationReasonCode.{RevocationReasonCode}
use Rattle.kmip_enums.specs.declared.name_type.NameType.TheVariants.{UninterpretedTextString}
use Rattle.kmip_types.specs.TheCryptographicAlgorithm.{CryptographicAlgorithm}
use Rattle.kmip_types.specs.ThePaddingMethod.{PaddingMethod}
use Rattle.kmip_types.specs.TheHashingAlgorithm.{HashingAlgorithm}
use Rattle.kmip_types.specs.declared.cryptographic_parameters.CryptographicParameters.{CryptographicParameters}
use Rattle.kmip_types.specs.declared.attribute_value.AttributeValue.TheVariants as values
use Rattle.kmip_request_objects.specs.Constructors.{attribute_of}
use Rattle.kmip_request_objects.specs.declared.attribute.Attribute.{Attribute}
use Rattle.kmip_request.specs.declared.payload.RequestPayload.{RequestPayload}

-- the operations and types of objects that the server supports, and who it is (KMIP 1.0, 4.24)
abbrev pub query_request : RequestPayload
query_request = RequestPayload.Query
    (QueryFunction.QueryOperations ∷ QueryFunction.QueryObjects ∷
    QueryFunction.QueryServerInformation ∷ [])

-- the attributes of both keys of an RSA pair, whose length is in bits
abbrev pub pair_attributes : ℤ → List Attribute
pair_attributes key_length =
    attribute_of (codes "Cryptographic Algorithm")
    (values.CryptographicAlgorithm CryptographicAlgorithm.RSA)
    ∷ attribute_of (codes "Cryptographic Length") (values.Integer key_length)
    ∷ []

-- the attributes of one key: its name, and its Cryptographic Usage Mask
abbrev pub key_attributes : List ℕ → ℕ → List Attribute
key_attributes name usage =
    attribute_of (codes "Name") (values.Name (record { 0 = name }) UninterpretedTextString)
    ∷ attribute_of (codes "Cryptographic Usage Mask") (values.Integer (pos usage))
    ∷ []

-- an RSA pair: the private key, which signs, and the public key, which verifies (KMIP 1.0, 4.2)
abbrev pub key_pair_request : ℤ → List ℕ → List ℕ → RequestPayload
key_pair_request key_length private_name public_name = RequestPayload.CreateKeyPair
    (Some (record { 0 = None; 1 = Some (pair_attributes key_length) }))
    (Some (record { 0 = None; 1 = Some (key_attributes private_name 0x1) }))
    (Some (record { 0 = None; 1 = Some (key_attributes public_name 0x2) }))

-- a number of random bytes (KMIP 1.2, 4.35)
abbrev pub rng_request : ℤ → RequestPayload
rng_request num_bytes = RequestPayload.RNGRetrieve (record { 0 = num_bytes })

-- a signature by RSA with PKCS #1 v1.5 padding, of the SHA-256 digest
abbrev pub signing_parameters : CryptographicParameters
signing_parameters = record {
  block_cipher_mode = None;
  padding_method = Some PaddingMethod.PKCS1_v1_5;
  hashing_algorithm = Some HashingAlgorithm.SHA256;
  key_role_type = None;
  digital_signature_algorithm = None;
  cryptographic_algorithm = Some CryptographicAlgorithm.RSA;
  random_iv = None;
  iv_length = None;
  tag_length = None;
  fixed_field_length = None;
  invocation_field_length = None;
  counter_length = None;
  initial_counter_value = None;
}

-- a signature of these bytes (KMIP 1.2, 4.31)
abbrev pub sign_request : List ℕ → List ℕ → RequestPayload
sign_request id bytes =
    RequestPayload.Sign (Some (record { 0 = id })) (Some signing_parameters) (record { 0 = bytes })

-- a key made active (KMIP 1.0, 4.18)
abbrev pub activate_request : List ℕ → RequestPayload
activate_request id = RequestPayload.Activate (Some (record { 0 = id }))

-- a key that is no longer needed revoked, with no message and no date (KMIP 1.0, 4.19)
abbrev pub revoke_request : List ℕ → RequestPayload
revoke_request id = RequestPayload.Revoke (Some (record { 0 = id }))
    (record { 0 = RevocationReasonCode.CessationOfOperation; 1 = None }) None

-- an object destroyed (KMIP 1.0, 4.20)
abbrev pub destroy_request : List ℕ → RequestPayload
destroy_request id = RequestPayload.Destroy (Some (record { 0 = id }))

-- the first name of an object changed, since the index is absent (KMIP 1.0, 4.14)
abbrev pub rename_request : List ℕ → List ℕ → RequestPayload
rename_request id name = RequestPayload.ModifyAttribute (Some (record { 0 = id }))
    (attribute_of (codes "Name") (values.Name (record { 0 = name }) UninterpretedTextString))

-- an object as it is, neither compressed nor wrapped, in whatever format (KMIP 1.0, 4.10)
abbrev pub get_request : List ℕ → RequestPayload
get_request id = RequestPayload.Get (Some (record { 0 = id })) None None None
