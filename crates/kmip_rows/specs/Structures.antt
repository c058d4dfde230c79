-- Written by tables/generate.py from tables/*.toml: change these instead.
-- The structures of the operations, with their fields; and the tags of managed objects.
use Rattle.std.specs.Prelude.{ℕ, List, [], ◌∷◌, codes}
use Rattle.kmip_tags.specs.Tags as tags
use Rattle.kmip_rows.specs.declared.rows.Mark.TheVariants.{One, AtMostOne, AnyNumber, AtLeastOne}
use Rattle.kmip_rows.specs.Rows.{Structure, structure, field}

unfoldable pub structures : List Structure
structures =
    -- KMIP 1.0, 2.1.1
    structure tags.ATTRIBUTE
    (field One tags.ATTRIBUTE_NAME 0 (codes "name") ∷
    field AtMostOne tags.ATTRIBUTE_INDEX 0 (codes "index") ∷
    field One tags.ATTRIBUTE_VALUE 0 (codes "value") ∷
    []) ∷
    -- KMIP 1.0, 2.1.3
    structure tags.KEY_BLOCK
    (field One tags.KEY_FORMAT_TYPE 0 (codes "key_format_type") ∷
    field AtMostOne tags.KEY_COMPRESSION_TYPE 0 (codes "key_compression_type") ∷
    field AtMostOne tags.KEY_VALUE 0 (codes "key_value") ∷
    field AtMostOne tags.CRYPTOGRAPHIC_ALGORITHM 0 (codes "cryptographic_algorithm") ∷
    field AtMostOne tags.CRYPTOGRAPHIC_LENGTH 0 (codes "cryptographic_length") ∷
    field AtMostOne tags.KEY_WRAPPING_DATA 0 (codes "key_wrapping_data") ∷
    []) ∷
    -- KMIP 1.0, 2.1.4
    structure tags.KEY_VALUE
    (field One tags.KEY_MATERIAL 0 (codes "key_material") ∷
    field AnyNumber tags.ATTRIBUTE 0 (codes "attributes") ∷
    []) ∷
    -- KMIP 1.0, 2.1.5
    structure tags.KEY_WRAPPING_DATA
    (field One tags.WRAPPING_METHOD 0 (codes "wrapping_method") ∷
    field AtMostOne tags.ENCRYPTION_KEY_INFORMATION 0 (codes "encryption_key_information") ∷
    field AtMostOne tags.MAC_SIGNATURE_KEY_INFORMATION 0 (codes "mac_signature_key_information") ∷
    field AtMostOne tags.MAC_SIGNATURE 0 (codes "mac_signature") ∷
    field AtMostOne tags.IV_COUNTER_NONCE 0 (codes "iv_counter_nonce") ∷
    field AtMostOne tags.ENCODING_OPTION 1 (codes "encoding_option") ∷
    []) ∷
    -- KMIP 1.0, 2.1.5
    structure tags.ENCRYPTION_KEY_INFORMATION
    (field One tags.UNIQUE_IDENTIFIER 0 (codes "unique_identifier") ∷
    field AtMostOne tags.CRYPTOGRAPHIC_PARAMETERS 0 (codes "cryptographic_parameters") ∷
    []) ∷
    -- KMIP 1.0, 2.1.5
    structure tags.MAC_SIGNATURE_KEY_INFORMATION
    (field One tags.UNIQUE_IDENTIFIER 0 (codes "unique_identifier") ∷
    field AtMostOne tags.CRYPTOGRAPHIC_PARAMETERS 0 (codes "cryptographic_parameters") ∷
    []) ∷
    -- KMIP 1.0, 2.1.6
    structure tags.KEY_WRAPPING_SPECIFICATION
    (field One tags.WRAPPING_METHOD 0 (codes "wrapping_method") ∷
    field AtMostOne tags.ENCRYPTION_KEY_INFORMATION 0 (codes "encryption_key_information") ∷
    field AtMostOne tags.MAC_SIGNATURE_KEY_INFORMATION 0 (codes "mac_signature_key_information") ∷
    field AnyNumber tags.ATTRIBUTE_NAME 0 (codes "attribute_names") ∷
    field AtMostOne tags.ENCODING_OPTION 1 (codes "encoding_option") ∷
    []) ∷
    -- KMIP 1.0, 2.1.8
    structure tags.TEMPLATE_ATTRIBUTE
    (field AnyNumber tags.NAME 0 (codes "names") ∷
    field AnyNumber tags.ATTRIBUTE 0 (codes "attributes") ∷
    []) ∷
    -- KMIP 1.0, 2.1.8
    structure tags.COMMON_TEMPLATE_ATTRIBUTE
    (field AnyNumber tags.NAME 0 (codes "names") ∷
    field AnyNumber tags.ATTRIBUTE 0 (codes "attributes") ∷
    []) ∷
    -- KMIP 1.0, 2.1.8
    structure tags.PRIVATE_KEY_TEMPLATE_ATTRIBUTE
    (field AnyNumber tags.NAME 0 (codes "names") ∷
    field AnyNumber tags.ATTRIBUTE 0 (codes "attributes") ∷
    []) ∷
    -- KMIP 1.0, 2.1.8
    structure tags.PUBLIC_KEY_TEMPLATE_ATTRIBUTE
    (field AnyNumber tags.NAME 0 (codes "names") ∷
    field AnyNumber tags.ATTRIBUTE 0 (codes "attributes") ∷
    []) ∷
    -- KMIP 1.1, 2.1.9
    structure tags.EXTENSION_INFORMATION
    (field One tags.EXTENSION_NAME 1 (codes "extension_name") ∷
    field AtMostOne tags.EXTENSION_TAG 1 (codes "extension_tag") ∷
    field AtMostOne tags.EXTENSION_TYPE 1 (codes "extension_type") ∷
    []) ∷
    -- KMIP 1.0, 2.2.1
    structure tags.CERTIFICATE
    (field One tags.CERTIFICATE_TYPE 0 (codes "certificate_type") ∷
    field One tags.CERTIFICATE_VALUE 0 (codes "certificate_value") ∷
    []) ∷
    -- KMIP 1.0, 2.2.2
    structure tags.SYMMETRIC_KEY
    (field One tags.KEY_BLOCK 0 (codes "key_block") ∷
    []) ∷
    -- KMIP 1.0, 2.2.3
    structure tags.PUBLIC_KEY
    (field One tags.KEY_BLOCK 0 (codes "key_block") ∷
    []) ∷
    -- KMIP 1.0, 2.2.4
    structure tags.PRIVATE_KEY
    (field One tags.KEY_BLOCK 0 (codes "key_block") ∷
    []) ∷
    -- KMIP 1.0, 2.2.5
    structure tags.SPLIT_KEY
    (field One tags.SPLIT_KEY_PARTS 0 (codes "split_key_parts") ∷
    field One tags.KEY_PART_IDENTIFIER 0 (codes "key_part_identifier") ∷
    field One tags.SPLIT_KEY_THRESHOLD 0 (codes "split_key_threshold") ∷
    field One tags.SPLIT_KEY_METHOD 0 (codes "split_key_method") ∷
    field AtMostOne tags.PRIME_FIELD_SIZE 0 (codes "prime_field_size") ∷
    field One tags.KEY_BLOCK 0 (codes "key_block") ∷
    []) ∷
    -- KMIP 1.0, 2.2.6
    structure tags.TEMPLATE
    (field AtLeastOne tags.ATTRIBUTE 0 (codes "attributes") ∷
    []) ∷
    -- KMIP 1.0, 2.2.7
    structure tags.SECRET_DATA
    (field One tags.SECRET_DATA_TYPE 0 (codes "secret_data_type") ∷
    field One tags.KEY_BLOCK 0 (codes "key_block") ∷
    []) ∷
    -- KMIP 1.0, 2.2.8
    structure tags.OPAQUE_OBJECT
    (field One tags.OPAQUE_DATA_TYPE 0 (codes "opaque_data_type") ∷
    field One tags.OPAQUE_DATA_VALUE 0 (codes "opaque_data_value") ∷
    []) ∷
    -- KMIP 1.2, 2.2.9
    structure tags.PGP_KEY
    (field One tags.PGP_KEY_VERSION 2 (codes "pgp_key_version") ∷
    field One tags.KEY_BLOCK 2 (codes "key_block") ∷
    []) ∷
    -- KMIP 1.0, 3.2
    structure tags.NAME
    (field One tags.NAME_VALUE 0 (codes "name_value") ∷
    field One tags.NAME_TYPE 0 (codes "name_type") ∷
    []) ∷
    -- KMIP 1.2, 3.6
    structure tags.CRYPTOGRAPHIC_PARAMETERS
    (field AtMostOne tags.BLOCK_CIPHER_MODE 0 (codes "block_cipher_mode") ∷
    field AtMostOne tags.PADDING_METHOD 0 (codes "padding_method") ∷
    field AtMostOne tags.HASHING_ALGORITHM 0 (codes "hashing_algorithm") ∷
    field AtMostOne tags.KEY_ROLE_TYPE 0 (codes "key_role_type") ∷
    field AtMostOne tags.DIGITAL_SIGNATURE_ALGORITHM 2 (codes "digital_signature_algorithm") ∷
    field AtMostOne tags.CRYPTOGRAPHIC_ALGORITHM 2 (codes "cryptographic_algorithm") ∷
    field AtMostOne tags.RANDOM_IV 2 (codes "random_iv") ∷
    field AtMostOne tags.IV_LENGTH 2 (codes "iv_length") ∷
    field AtMostOne tags.TAG_LENGTH 2 (codes "tag_length") ∷
    field AtMostOne tags.FIXED_FIELD_LENGTH 2 (codes "fixed_field_length") ∷
    field AtMostOne tags.INVOCATION_FIELD_LENGTH 2 (codes "invocation_field_length") ∷
    field AtMostOne tags.COUNTER_LENGTH 2 (codes "counter_length") ∷
    field AtMostOne tags.INITIAL_COUNTER_VALUE 2 (codes "initial_counter_value") ∷
    []) ∷
    -- KMIP 1.0, 3.7
    structure tags.CRYPTOGRAPHIC_DOMAIN_PARAMETERS
    (field AtMostOne tags.QLENGTH 0 (codes "qlength") ∷
    field AtMostOne tags.RECOMMENDED_CURVE 0 (codes "recommended_curve") ∷
    []) ∷
    -- KMIP 1.0, 3.26
    structure tags.REVOCATION_REASON
    (field One tags.REVOCATION_REASON_CODE 0 (codes "revocation_reason_code") ∷
    field AtMostOne tags.REVOCATION_MESSAGE 0 (codes "revocation_message") ∷
    []) ∷
    -- KMIP 1.0, 4.5
    structure tags.DERIVATION_PARAMETERS
    (field AtMostOne tags.CRYPTOGRAPHIC_PARAMETERS 0 (codes "cryptographic_parameters") ∷
    field AtMostOne tags.INITIALIZATION_VECTOR 0 (codes "initialization_vector") ∷
    field AtMostOne tags.DERIVATION_DATA 0 (codes "derivation_data") ∷
    field AtMostOne tags.SALT 0 (codes "salt") ∷
    field AtMostOne tags.ITERATION_COUNT 0 (codes "iteration_count") ∷
    []) ∷
    -- KMIP 1.0, 6.1
    structure tags.PROTOCOL_VERSION
    (field One tags.PROTOCOL_VERSION_MAJOR 0 (codes "major") ∷
    field One tags.PROTOCOL_VERSION_MINOR 0 (codes "minor") ∷
    []) ∷
    []

-- the tags of managed objects (KMIP 1.0, 2.2)
abbrev pub objects : List ℕ
objects =
    tags.CERTIFICATE ∷
    tags.SYMMETRIC_KEY ∷
    tags.PUBLIC_KEY ∷
    tags.PRIVATE_KEY ∷
    tags.SPLIT_KEY ∷
    tags.TEMPLATE ∷
    tags.SECRET_DATA ∷
    tags.OPAQUE_OBJECT ∷
    tags.PGP_KEY ∷
    []
