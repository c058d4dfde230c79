-- Written by tables/generate.py from tables/*.toml: change these instead.
-- The operations of KMIP 1.0 to 1.2 that a client asks for, with the fields of their payloads.
use Rattle.std.specs.Prelude.{[], ◌∷◌, Option, Some, None, codes}
use Rattle.kmip_tags.specs.Tags as tags
use Rattle.kmip_enums.specs.declared.operation.Operation.{Operation}
use Rattle.kmip_enums.specs.declared.operation.Operation.TheVariants as operations
use Rattle.kmip_rows.specs.declared.rows.Mark.TheVariants.{One, AtMostOne, AnyNumber, AtLeastOne}
use Rattle.kmip_rows.specs.declared.rows.Effect.TheVariants.{Reads, Makes, Changes}
use Rattle.kmip_rows.specs.Rows.{Row, row, field, same, object, of_fields, of_the_operation}

-- KMIP 1.0, 4.1
abbrev pub create : Row
create = row operations.Create 0 Makes
    (field One tags.OBJECT_TYPE 0 (codes "object_type") ∷
    field One tags.TEMPLATE_ATTRIBUTE 0 (codes "template_attribute") ∷
    [])
    (of_fields (
    field One tags.OBJECT_TYPE 0 (codes "object_type") ∷
    field One tags.UNIQUE_IDENTIFIER 0 (codes "unique_identifier") ∷
    field AtMostOne tags.TEMPLATE_ATTRIBUTE 0 (codes "template_attribute") ∷
    []))
    ([])

-- KMIP 1.0, 4.2
abbrev pub create_key_pair : Row
create_key_pair = row operations.CreateKeyPair 0 Makes
    (field AtMostOne tags.COMMON_TEMPLATE_ATTRIBUTE 0 (codes "common_template_attribute") ∷
    field AtMostOne tags.PRIVATE_KEY_TEMPLATE_ATTRIBUTE 0 (codes "private_key_template_attribute") ∷
    field AtMostOne tags.PUBLIC_KEY_TEMPLATE_ATTRIBUTE 0 (codes "public_key_template_attribute") ∷
    [])
    (of_fields (
    field One tags.PRIVATE_KEY_UNIQUE_IDENTIFIER 0 (codes "private_key_unique_identifier") ∷
    field One tags.PUBLIC_KEY_UNIQUE_IDENTIFIER 0 (codes "public_key_unique_identifier") ∷
    field AtMostOne tags.PRIVATE_KEY_TEMPLATE_ATTRIBUTE 0 (codes "private_key_template_attribute") ∷
    field AtMostOne tags.PUBLIC_KEY_TEMPLATE_ATTRIBUTE 0 (codes "public_key_template_attribute") ∷
    []))
    (tags.PRIVATE_KEY_UNIQUE_IDENTIFIER ∷ tags.PUBLIC_KEY_UNIQUE_IDENTIFIER ∷ [])

-- KMIP 1.0, 4.3
abbrev pub register : Row
register = row operations.Register 0 Makes
    (field One tags.OBJECT_TYPE 0 (codes "object_type") ∷
    field One tags.TEMPLATE_ATTRIBUTE 0 (codes "template_attribute") ∷
    object One 0 (codes "object") ∷
    [])
    (of_fields (
    field One tags.UNIQUE_IDENTIFIER 0 (codes "unique_identifier") ∷
    field AtMostOne tags.TEMPLATE_ATTRIBUTE 0 (codes "template_attribute") ∷
    []))
    ([])

-- KMIP 1.0, 4.4
abbrev pub rekey : Row
rekey = row operations.Rekey 0 Makes
    (field AtMostOne tags.UNIQUE_IDENTIFIER 0 (codes "unique_identifier") ∷
    field AtMostOne tags.OFFSET 0 (codes "offset") ∷
    field AtMostOne tags.TEMPLATE_ATTRIBUTE 0 (codes "template_attribute") ∷
    [])
    (of_fields (
    field One tags.UNIQUE_IDENTIFIER 0 (codes "unique_identifier") ∷
    field AtMostOne tags.TEMPLATE_ATTRIBUTE 0 (codes "template_attribute") ∷
    []))
    ([])

-- KMIP 1.0, 4.5
abbrev pub derive_key : Row
derive_key = row operations.DeriveKey 0 Makes
    (field One tags.OBJECT_TYPE 0 (codes "object_type") ∷
    field AtLeastOne tags.UNIQUE_IDENTIFIER 0 (codes "unique_identifiers") ∷
    field One tags.DERIVATION_METHOD 0 (codes "derivation_method") ∷
    field One tags.DERIVATION_PARAMETERS 0 (codes "derivation_parameters") ∷
    field One tags.TEMPLATE_ATTRIBUTE 0 (codes "template_attribute") ∷
    [])
    (of_fields (
    field One tags.UNIQUE_IDENTIFIER 0 (codes "unique_identifier") ∷
    field AtMostOne tags.TEMPLATE_ATTRIBUTE 0 (codes "template_attribute") ∷
    []))
    ([])

-- KMIP 1.0, 4.6
abbrev pub certify : Row
certify = row operations.Certify 0 Makes
    (field AtMostOne tags.UNIQUE_IDENTIFIER 0 (codes "unique_identifier") ∷
    field AtMostOne tags.CERTIFICATE_REQUEST_TYPE 0 (codes "certificate_request_type") ∷
    field AtMostOne tags.CERTIFICATE_REQUEST 0 (codes "certificate_request") ∷
    field AtMostOne tags.TEMPLATE_ATTRIBUTE 0 (codes "template_attribute") ∷
    [])
    (of_fields (
    field One tags.UNIQUE_IDENTIFIER 0 (codes "unique_identifier") ∷
    field AtMostOne tags.TEMPLATE_ATTRIBUTE 0 (codes "template_attribute") ∷
    []))
    ([])

-- KMIP 1.0, 4.7
abbrev pub recertify : Row
recertify = row operations.Recertify 0 Makes
    (field AtMostOne tags.UNIQUE_IDENTIFIER 0 (codes "unique_identifier") ∷
    field AtMostOne tags.CERTIFICATE_REQUEST_TYPE 0 (codes "certificate_request_type") ∷
    field AtMostOne tags.CERTIFICATE_REQUEST 0 (codes "certificate_request") ∷
    field AtMostOne tags.OFFSET 0 (codes "offset") ∷
    field AtMostOne tags.TEMPLATE_ATTRIBUTE 0 (codes "template_attribute") ∷
    [])
    (of_fields (
    field One tags.UNIQUE_IDENTIFIER 0 (codes "unique_identifier") ∷
    field AtMostOne tags.TEMPLATE_ATTRIBUTE 0 (codes "template_attribute") ∷
    []))
    ([])

-- KMIP 1.0, 4.8
abbrev pub locate : Row
locate = row operations.Locate 0 Reads
    (field AtMostOne tags.MAXIMUM_ITEMS 0 (codes "maximum_items") ∷
    field AtMostOne tags.STORAGE_STATUS_MASK 0 (codes "storage_status_mask") ∷
    field AtMostOne tags.OBJECT_GROUP_MEMBER 1 (codes "object_group_member") ∷
    field AnyNumber tags.ATTRIBUTE 0 (codes "attributes") ∷
    [])
    (of_fields (
    field AnyNumber tags.UNIQUE_IDENTIFIER 0 (codes "unique_identifiers") ∷
    []))
    ([])

-- KMIP 1.0, 4.9
abbrev pub check : Row
check = row operations.Check 0 Reads
    (field AtMostOne tags.UNIQUE_IDENTIFIER 0 (codes "unique_identifier") ∷
    field AtMostOne tags.USAGE_LIMITS_COUNT 0 (codes "usage_limits_count") ∷
    field AtMostOne tags.CRYPTOGRAPHIC_USAGE_MASK 0 (codes "cryptographic_usage_mask") ∷
    field AtMostOne tags.LEASE_TIME 0 (codes "lease_time") ∷
    [])
    (of_fields (
    same One tags.UNIQUE_IDENTIFIER 0 (codes "unique_identifier") ∷
    field AtMostOne tags.USAGE_LIMITS_COUNT 0 (codes "usage_limits_count") ∷
    field AtMostOne tags.CRYPTOGRAPHIC_USAGE_MASK 0 (codes "cryptographic_usage_mask") ∷
    field AtMostOne tags.LEASE_TIME 0 (codes "lease_time") ∷
    []))
    ([])

-- KMIP 1.0, 4.10
abbrev pub get : Row
get = row operations.Get 0 Reads
    (field AtMostOne tags.UNIQUE_IDENTIFIER 0 (codes "unique_identifier") ∷
    field AtMostOne tags.KEY_FORMAT_TYPE 0 (codes "key_format_type") ∷
    field AtMostOne tags.KEY_COMPRESSION_TYPE 0 (codes "key_compression_type") ∷
    field AtMostOne tags.KEY_WRAPPING_SPECIFICATION 0 (codes "key_wrapping_specification") ∷
    [])
    (of_fields (
    field One tags.OBJECT_TYPE 0 (codes "object_type") ∷
    same One tags.UNIQUE_IDENTIFIER 0 (codes "unique_identifier") ∷
    object One 0 (codes "cryptographic_object") ∷
    []))
    ([])

-- KMIP 1.0, 4.11
abbrev pub get_attributes : Row
get_attributes = row operations.GetAttributes 0 Reads
    (field AtMostOne tags.UNIQUE_IDENTIFIER 0 (codes "unique_identifier") ∷
    field AnyNumber tags.ATTRIBUTE_NAME 0 (codes "attribute_names") ∷
    [])
    (of_fields (
    same One tags.UNIQUE_IDENTIFIER 0 (codes "unique_identifier") ∷
    field AnyNumber tags.ATTRIBUTE 0 (codes "attributes") ∷
    []))
    ([])

-- KMIP 1.0, 4.12
abbrev pub get_attribute_list : Row
get_attribute_list = row operations.GetAttributeList 0 Reads
    (field AtMostOne tags.UNIQUE_IDENTIFIER 0 (codes "unique_identifier") ∷
    [])
    (of_fields (
    same One tags.UNIQUE_IDENTIFIER 0 (codes "unique_identifier") ∷
    field AtLeastOne tags.ATTRIBUTE_NAME 0 (codes "attribute_names") ∷
    []))
    ([])

-- KMIP 1.0, 4.13
abbrev pub add_attribute : Row
add_attribute = row operations.AddAttribute 0 Changes
    (field AtMostOne tags.UNIQUE_IDENTIFIER 0 (codes "unique_identifier") ∷
    field One tags.ATTRIBUTE 0 (codes "attribute") ∷
    [])
    (of_fields (
    same One tags.UNIQUE_IDENTIFIER 0 (codes "unique_identifier") ∷
    field One tags.ATTRIBUTE 0 (codes "attribute") ∷
    []))
    ([])

-- KMIP 1.0, 4.14
abbrev pub modify_attribute : Row
modify_attribute = row operations.ModifyAttribute 0 Changes
    (field AtMostOne tags.UNIQUE_IDENTIFIER 0 (codes "unique_identifier") ∷
    field One tags.ATTRIBUTE 0 (codes "attribute") ∷
    [])
    (of_fields (
    same One tags.UNIQUE_IDENTIFIER 0 (codes "unique_identifier") ∷
    field One tags.ATTRIBUTE 0 (codes "attribute") ∷
    []))
    ([])

-- KMIP 1.0, 4.15
abbrev pub delete_attribute : Row
delete_attribute = row operations.DeleteAttribute 0 Changes
    (field AtMostOne tags.UNIQUE_IDENTIFIER 0 (codes "unique_identifier") ∷
    field One tags.ATTRIBUTE_NAME 0 (codes "attribute_name") ∷
    field AtMostOne tags.ATTRIBUTE_INDEX 0 (codes "attribute_index") ∷
    [])
    (of_fields (
    same One tags.UNIQUE_IDENTIFIER 0 (codes "unique_identifier") ∷
    field One tags.ATTRIBUTE 0 (codes "attribute") ∷
    []))
    ([])

-- KMIP 1.0, 4.16
abbrev pub obtain_lease : Row
obtain_lease = row operations.ObtainLease 0 Changes
    (field AtMostOne tags.UNIQUE_IDENTIFIER 0 (codes "unique_identifier") ∷
    [])
    (of_fields (
    same One tags.UNIQUE_IDENTIFIER 0 (codes "unique_identifier") ∷
    field One tags.LEASE_TIME 0 (codes "lease_time") ∷
    field One tags.LAST_CHANGE_DATE 0 (codes "last_change_date") ∷
    []))
    ([])

-- KMIP 1.0, 4.17
abbrev pub get_usage_allocation : Row
get_usage_allocation = row operations.GetUsageAllocation 0 Changes
    (field AtMostOne tags.UNIQUE_IDENTIFIER 0 (codes "unique_identifier") ∷
    field One tags.USAGE_LIMITS_COUNT 0 (codes "usage_limits_count") ∷
    [])
    (of_fields (
    same One tags.UNIQUE_IDENTIFIER 0 (codes "unique_identifier") ∷
    []))
    ([])

-- KMIP 1.0, 4.18
abbrev pub activate : Row
activate = row operations.Activate 0 Changes
    (field AtMostOne tags.UNIQUE_IDENTIFIER 0 (codes "unique_identifier") ∷
    [])
    (of_fields (
    same One tags.UNIQUE_IDENTIFIER 0 (codes "unique_identifier") ∷
    []))
    ([])

-- KMIP 1.0, 4.19
abbrev pub revoke : Row
revoke = row operations.Revoke 0 Changes
    (field AtMostOne tags.UNIQUE_IDENTIFIER 0 (codes "unique_identifier") ∷
    field One tags.REVOCATION_REASON 0 (codes "revocation_reason") ∷
    field AtMostOne tags.COMPROMISE_OCCURRENCE_DATE 0 (codes "compromise_occurrence_date") ∷
    [])
    (of_fields (
    same One tags.UNIQUE_IDENTIFIER 0 (codes "unique_identifier") ∷
    []))
    ([])

-- KMIP 1.0, 4.20
abbrev pub destroy : Row
destroy = row operations.Destroy 0 Changes
    (field AtMostOne tags.UNIQUE_IDENTIFIER 0 (codes "unique_identifier") ∷
    [])
    (of_fields (
    same One tags.UNIQUE_IDENTIFIER 0 (codes "unique_identifier") ∷
    []))
    ([])

-- KMIP 1.0, 4.21
abbrev pub archive : Row
archive = row operations.Archive 0 Changes
    (field AtMostOne tags.UNIQUE_IDENTIFIER 0 (codes "unique_identifier") ∷
    [])
    (of_fields (
    same One tags.UNIQUE_IDENTIFIER 0 (codes "unique_identifier") ∷
    []))
    ([])

-- KMIP 1.0, 4.22
abbrev pub recover : Row
recover = row operations.Recover 0 Changes
    (field AtMostOne tags.UNIQUE_IDENTIFIER 0 (codes "unique_identifier") ∷
    [])
    (of_fields (
    same One tags.UNIQUE_IDENTIFIER 0 (codes "unique_identifier") ∷
    []))
    ([])

-- KMIP 1.0, 4.23
abbrev pub validate : Row
validate = row operations.Validate 0 Reads
    (field AnyNumber tags.CERTIFICATE 0 (codes "certificates") ∷
    field AnyNumber tags.UNIQUE_IDENTIFIER 0 (codes "unique_identifiers") ∷
    field AtMostOne tags.VALIDITY_DATE 0 (codes "validity_date") ∷
    [])
    (of_fields (
    field One tags.VALIDITY_INDICATOR 0 (codes "validity_indicator") ∷
    []))
    ([])

-- KMIP 1.0, 4.24
abbrev pub query : Row
query = row operations.Query 0 Reads
    (field AtLeastOne tags.QUERY_FUNCTION 0 (codes "query_functions") ∷
    [])
    (of_fields (
    field AnyNumber tags.OPERATION 0 (codes "operations") ∷
    field AnyNumber tags.OBJECT_TYPE 0 (codes "object_types") ∷
    field AtMostOne tags.VENDOR_IDENTIFICATION 0 (codes "vendor_identification") ∷
    field AtMostOne tags.SERVER_INFORMATION 0 (codes "server_information") ∷
    field AnyNumber tags.APPLICATION_NAMESPACE 0 (codes "application_namespaces") ∷
    field AnyNumber tags.EXTENSION_INFORMATION 1 (codes "extension_information") ∷
    field AnyNumber tags.ATTESTATION_TYPE 2 (codes "attestation_types") ∷
    []))
    ([])

-- KMIP 1.0, 4.25
abbrev pub cancel : Row
cancel = row operations.Cancel 0 Changes
    (field One tags.ASYNCHRONOUS_CORRELATION_VALUE 0 (codes "asynchronous_correlation_value") ∷
    [])
    (of_fields (
    same One tags.ASYNCHRONOUS_CORRELATION_VALUE 0 (codes "asynchronous_correlation_value") ∷
    field One tags.CANCELLATION_RESULT 0 (codes "cancellation_result") ∷
    []))
    ([])

-- KMIP 1.0, 4.26
abbrev pub poll : Row
poll = row operations.Poll 0 Changes
    (field One tags.ASYNCHRONOUS_CORRELATION_VALUE 0 (codes "asynchronous_correlation_value") ∷
    [])
    (of_the_operation)
    ([])

-- KMIP 1.1, 4.5
abbrev pub rekey_key_pair : Row
rekey_key_pair = row operations.RekeyKeyPair 1 Makes
    (field AtMostOne tags.PRIVATE_KEY_UNIQUE_IDENTIFIER 1 (codes "private_key_unique_identifier") ∷
    field AtMostOne tags.OFFSET 1 (codes "offset") ∷
    field AtMostOne tags.COMMON_TEMPLATE_ATTRIBUTE 1 (codes "common_template_attribute") ∷
    field AtMostOne tags.PRIVATE_KEY_TEMPLATE_ATTRIBUTE 1 (codes "private_key_template_attribute") ∷
    field AtMostOne tags.PUBLIC_KEY_TEMPLATE_ATTRIBUTE 1 (codes "public_key_template_attribute") ∷
    [])
    (of_fields (
    field One tags.PRIVATE_KEY_UNIQUE_IDENTIFIER 1 (codes "private_key_unique_identifier") ∷
    field One tags.PUBLIC_KEY_UNIQUE_IDENTIFIER 1 (codes "public_key_unique_identifier") ∷
    field AtMostOne tags.PRIVATE_KEY_TEMPLATE_ATTRIBUTE 1 (codes "private_key_template_attribute") ∷
    field AtMostOne tags.PUBLIC_KEY_TEMPLATE_ATTRIBUTE 1 (codes "public_key_template_attribute") ∷
    []))
    (tags.PRIVATE_KEY_UNIQUE_IDENTIFIER ∷ tags.PUBLIC_KEY_UNIQUE_IDENTIFIER ∷ [])

-- KMIP 1.1, 4.26
abbrev pub discover_versions : Row
discover_versions = row operations.DiscoverVersions 1 Reads
    (field AnyNumber tags.PROTOCOL_VERSION 1 (codes "protocol_versions") ∷
    [])
    (of_fields (
    field AnyNumber tags.PROTOCOL_VERSION 1 (codes "supported_versions") ∷
    []))
    ([])

-- KMIP 1.2, 4.29
abbrev pub encrypt : Row
encrypt = row operations.Encrypt 2 Reads
    (field AtMostOne tags.UNIQUE_IDENTIFIER 2 (codes "unique_identifier") ∷
    field AtMostOne tags.CRYPTOGRAPHIC_PARAMETERS 2 (codes "cryptographic_parameters") ∷
    field One tags.DATA 2 (codes "data") ∷
    field AtMostOne tags.IV_COUNTER_NONCE 2 (codes "iv_counter_nonce") ∷
    [])
    (of_fields (
    same One tags.UNIQUE_IDENTIFIER 2 (codes "unique_identifier") ∷
    field One tags.DATA 2 (codes "data") ∷
    field AtMostOne tags.IV_COUNTER_NONCE 2 (codes "iv_counter_nonce") ∷
    []))
    ([])

-- KMIP 1.2, 4.30
abbrev pub decrypt : Row
decrypt = row operations.Decrypt 2 Reads
    (field AtMostOne tags.UNIQUE_IDENTIFIER 2 (codes "unique_identifier") ∷
    field AtMostOne tags.CRYPTOGRAPHIC_PARAMETERS 2 (codes "cryptographic_parameters") ∷
    field One tags.DATA 2 (codes "data") ∷
    field AtMostOne tags.IV_COUNTER_NONCE 2 (codes "iv_counter_nonce") ∷
    [])
    (of_fields (
    same One tags.UNIQUE_IDENTIFIER 2 (codes "unique_identifier") ∷
    field One tags.DATA 2 (codes "data") ∷
    []))
    ([])

-- KMIP 1.2, 4.31
abbrev pub sign : Row
sign = row operations.Sign 2 Reads
    (field AtMostOne tags.UNIQUE_IDENTIFIER 2 (codes "unique_identifier") ∷
    field AtMostOne tags.CRYPTOGRAPHIC_PARAMETERS 2 (codes "cryptographic_parameters") ∷
    field One tags.DATA 2 (codes "data") ∷
    [])
    (of_fields (
    same One tags.UNIQUE_IDENTIFIER 2 (codes "unique_identifier") ∷
    field One tags.SIGNATURE_DATA 2 (codes "signature_data") ∷
    []))
    ([])

-- KMIP 1.2, 4.32
abbrev pub signature_verify : Row
signature_verify = row operations.SignatureVerify 2 Reads
    (field AtMostOne tags.UNIQUE_IDENTIFIER 2 (codes "unique_identifier") ∷
    field AtMostOne tags.CRYPTOGRAPHIC_PARAMETERS 2 (codes "cryptographic_parameters") ∷
    field One tags.DATA 2 (codes "data") ∷
    field One tags.SIGNATURE_DATA 2 (codes "signature_data") ∷
    [])
    (of_fields (
    same One tags.UNIQUE_IDENTIFIER 2 (codes "unique_identifier") ∷
    field One tags.VALIDITY_INDICATOR 2 (codes "validity_indicator") ∷
    field AtMostOne tags.DATA 2 (codes "data") ∷
    []))
    ([])

-- KMIP 1.2, 4.33
abbrev pub mac : Row
mac = row operations.MAC 2 Reads
    (field AtMostOne tags.UNIQUE_IDENTIFIER 2 (codes "unique_identifier") ∷
    field AtMostOne tags.CRYPTOGRAPHIC_PARAMETERS 2 (codes "cryptographic_parameters") ∷
    field One tags.DATA 2 (codes "data") ∷
    [])
    (of_fields (
    same One tags.UNIQUE_IDENTIFIER 2 (codes "unique_identifier") ∷
    field One tags.MAC_DATA 2 (codes "mac_data") ∷
    []))
    ([])

-- KMIP 1.2, 4.34
abbrev pub mac_verify : Row
mac_verify = row operations.MACVerify 2 Reads
    (field AtMostOne tags.UNIQUE_IDENTIFIER 2 (codes "unique_identifier") ∷
    field AtMostOne tags.CRYPTOGRAPHIC_PARAMETERS 2 (codes "cryptographic_parameters") ∷
    field One tags.DATA 2 (codes "data") ∷
    field One tags.MAC_DATA 2 (codes "mac_data") ∷
    [])
    (of_fields (
    same One tags.UNIQUE_IDENTIFIER 2 (codes "unique_identifier") ∷
    field One tags.VALIDITY_INDICATOR 2 (codes "validity_indicator") ∷
    []))
    ([])

-- KMIP 1.2, 4.35
abbrev pub rng_retrieve : Row
rng_retrieve = row operations.RNGRetrieve 2 Reads
    (field One tags.DATA_LENGTH 2 (codes "data_length") ∷
    [])
    (of_fields (
    field One tags.DATA 2 (codes "random_bytes") ∷
    []))
    ([])

-- KMIP 1.2, 4.36
abbrev pub rng_seed : Row
rng_seed = row operations.RNGSeed 2 Changes
    (field One tags.DATA 2 (codes "data") ∷
    [])
    (of_fields (
    field One tags.DATA_LENGTH 2 (codes "data_length") ∷
    []))
    ([])

-- KMIP 1.2, 4.37
abbrev pub hash : Row
hash = row operations.Hash 2 Reads
    (field One tags.CRYPTOGRAPHIC_PARAMETERS 2 (codes "cryptographic_parameters") ∷
    field One tags.DATA 2 (codes "data") ∷
    [])
    (of_fields (
    field One tags.DATA 2 (codes "data") ∷
    []))
    ([])

-- KMIP 1.2, 4.38
abbrev pub create_split_key : Row
create_split_key = row operations.CreateSplitKey 2 Makes
    (field One tags.OBJECT_TYPE 2 (codes "object_type") ∷
    field AtMostOne tags.UNIQUE_IDENTIFIER 2 (codes "unique_identifier") ∷
    field One tags.SPLIT_KEY_PARTS 2 (codes "split_key_parts") ∷
    field One tags.SPLIT_KEY_THRESHOLD 2 (codes "split_key_threshold") ∷
    field One tags.SPLIT_KEY_METHOD 2 (codes "split_key_method") ∷
    field AtMostOne tags.PRIME_FIELD_SIZE 2 (codes "prime_field_size") ∷
    field One tags.TEMPLATE_ATTRIBUTE 2 (codes "template_attribute") ∷
    [])
    (of_fields (
    field AtLeastOne tags.UNIQUE_IDENTIFIER 2 (codes "unique_identifiers") ∷
    field AtMostOne tags.TEMPLATE_ATTRIBUTE 2 (codes "template_attribute") ∷
    []))
    ([])

-- KMIP 1.2, 4.39
abbrev pub join_split_key : Row
join_split_key = row operations.JoinSplitKey 2 Makes
    (field One tags.OBJECT_TYPE 2 (codes "object_type") ∷
    field AtLeastOne tags.UNIQUE_IDENTIFIER 2 (codes "unique_identifiers") ∷
    field AtMostOne tags.SECRET_DATA_TYPE 2 (codes "secret_data_type") ∷
    field AtMostOne tags.TEMPLATE_ATTRIBUTE 2 (codes "template_attribute") ∷
    [])
    (of_fields (
    field One tags.UNIQUE_IDENTIFIER 2 (codes "unique_identifier") ∷
    field AtMostOne tags.TEMPLATE_ATTRIBUTE 2 (codes "template_attribute") ∷
    []))
    ([])

-- the row of an operation; none of those that a server asks a client for (KMIP 1.0, 5)
abbrev pub row_of : Operation → Option Row
row_of operations.Create = Some create
row_of operations.CreateKeyPair = Some create_key_pair
row_of operations.Register = Some register
row_of operations.Rekey = Some rekey
row_of operations.DeriveKey = Some derive_key
row_of operations.Certify = Some certify
row_of operations.Recertify = Some recertify
row_of operations.Locate = Some locate
row_of operations.Check = Some check
row_of operations.Get = Some get
row_of operations.GetAttributes = Some get_attributes
row_of operations.GetAttributeList = Some get_attribute_list
row_of operations.AddAttribute = Some add_attribute
row_of operations.ModifyAttribute = Some modify_attribute
row_of operations.DeleteAttribute = Some delete_attribute
row_of operations.ObtainLease = Some obtain_lease
row_of operations.GetUsageAllocation = Some get_usage_allocation
row_of operations.Activate = Some activate
row_of operations.Revoke = Some revoke
row_of operations.Destroy = Some destroy
row_of operations.Archive = Some archive
row_of operations.Recover = Some recover
row_of operations.Validate = Some validate
row_of operations.Query = Some query
row_of operations.Cancel = Some cancel
row_of operations.Poll = Some poll
row_of operations.Notify = None
row_of operations.Put = None
row_of operations.RekeyKeyPair = Some rekey_key_pair
row_of operations.DiscoverVersions = Some discover_versions
row_of operations.Encrypt = Some encrypt
row_of operations.Decrypt = Some decrypt
row_of operations.Sign = Some sign
row_of operations.SignatureVerify = Some signature_verify
row_of operations.MAC = Some mac
row_of operations.MACVerify = Some mac_verify
row_of operations.RNGRetrieve = Some rng_retrieve
row_of operations.RNGSeed = Some rng_seed
row_of operations.Hash = Some hash
row_of operations.CreateSplitKey = Some create_split_key
row_of operations.JoinSplitKey = Some join_split_key
