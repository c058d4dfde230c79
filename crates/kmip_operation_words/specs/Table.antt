-- The table of calls.
use Rattle.std.specs.Prelude.{ℕ, List, [], ◌∷◌, codes}
use Rattle.kmip_tags.specs.Tags as tags
use Rattle.kmip_enums.specs.declared.operation.Operation.TheVariants as operations
use Rattle.kmip_operation_words.specs.declared.rows.Group.TheVariants as groups
use Rattle.kmip_operation_words.specs.declared.rows.Rest.TheVariants.{Options, Words}
use Rattle.kmip_operation_words.specs.Rows.{Field, Part, part, Row, row}
use Rattle.kmip_operation_words.specs.Fields.{algorithm_attribute, cipher, correlation, count, count_wanted, curve, curve_algorithm, curve_private_name, curve_public_name, data_alone, derivation_data, derivation_iv, hash, hashed_by, id, ids, iterations, iv, key_algorithm, key_bits, key_name, key_usage, lease_wanted, length, length_needed, mac, method, mode, name_given, object_data, offset, padding, parameters, private_id, private_name, private_usage, public_name, public_usage, request, request_type, salt, second_id, seed, signature, symmetric_key, type, usage_attribute, usage_wanted}

-- fields that stand in the payload itself
abbrev pub own : List Field → Part
own fields = part groups.Payload fields

-- fields that stand in a structure, which stands where one of them is given
abbrev pub within : ℕ → List Field → Part
within tag fields = part (groups.Given tag) fields

-- fields that stand in a structure which the operation requires
abbrev pub within_needed : ℕ → List Field → Part
within_needed tag fields = part (groups.Needed tag) fields

-- the object alone
abbrev pub object : Part
object = own (id ∷ [])

-- how the object is used: KMIP 1.2, 3.6
abbrev pub used : Part
used = own parameters

-- the data, and where the cipher starts
abbrev pub data_and_iv : Part
data_and_iv = own (object_data ∷ iv ∷ [])

-- the name of a new object
abbrev pub named : Part
named = within tags.TEMPLATE_ATTRIBUTE (name_given ∷ [])

-- KMIP 1.2, 4.29
abbrev pub encrypt_row : Row
encrypt_row = row (codes "encrypt") operations.Encrypt 2 Options
    (object ∷ used ∷ data_and_iv ∷ [])

-- KMIP 1.2, 4.30
abbrev pub decrypt_row : Row
decrypt_row = row (codes "decrypt") operations.Decrypt 2 Options
    (object ∷ used ∷ data_and_iv ∷ [])

-- KMIP 1.2, 4.33
abbrev pub mac_row : Row
mac_row = row (codes "mac") operations.MAC 2 Options
    (object ∷ used ∷ own (object_data ∷ []) ∷ [])

-- KMIP 1.2, 4.34
abbrev pub mac_verify_row : Row
mac_verify_row = row (codes "mac-verify") operations.MACVerify 3 Options
    (object ∷ used ∷ own (object_data ∷ mac ∷ []) ∷ [])

-- KMIP 1.2, 4.32
abbrev pub verify_row : Row
verify_row = row (codes "verify") operations.SignatureVerify 3 Options
    (object ∷ used ∷ own (object_data ∷ signature ∷ []) ∷ [])

-- KMIP 1.2, 4.37
abbrev pub hash_row : Row
hash_row = row (codes "hash") operations.Hash 1 Options
    (own (hashed_by ∷ data_alone ∷ []) ∷ [])

-- KMIP 1.0, 4.5, which requires Derivation Parameters
abbrev pub derive_key_row : Row
derive_key_row = row (codes "derive-key") operations.DeriveKey 2 Options
    (own (type ∷ id ∷ second_id ∷ method ∷ [])
    ∷ within_needed tags.DERIVATION_PARAMETERS
    (mode ∷ padding ∷ hash ∷ cipher ∷ derivation_iv ∷ derivation_data ∷ salt ∷ iterations ∷ [])
    ∷ within tags.TEMPLATE_ATTRIBUTE (algorithm_attribute ∷ length_needed ∷ usage_attribute ∷ name_given ∷ [])
    ∷ [])

-- KMIP 1.0, 4.4
abbrev pub rekey_row : Row
rekey_row = row (codes "rekey") operations.Rekey 1 Options
    (own (id ∷ offset ∷ []) ∷ [])

-- KMIP 1.1, 4.5
abbrev pub rekey_pair_row : Row
rekey_pair_row = row (codes "rekey-pair") operations.RekeyKeyPair 1 Options
    (own (private_id ∷ offset ∷ []) ∷ [])

-- KMIP 1.0, 4.6
abbrev pub certify_row : Row
certify_row = row (codes "certify") operations.Certify 1 Options
    (own (id ∷ request_type ∷ request ∷ []) ∷ named ∷ [])

-- KMIP 1.0, 4.7
abbrev pub recertify_row : Row
recertify_row = row (codes "recertify") operations.Recertify 1 Options
    (own (id ∷ request_type ∷ request ∷ offset ∷ []) ∷ named ∷ [])

-- KMIP 1.0, 4.2
abbrev pub create_ec_row : Row
create_ec_row = row (codes "create-ec") operations.CreateKeyPair 3 Options
    (within tags.COMMON_TEMPLATE_ATTRIBUTE (curve_algorithm ∷ length ∷ curve ∷ [])
    ∷ within tags.PRIVATE_KEY_TEMPLATE_ATTRIBUTE (curve_private_name ∷ private_usage ∷ [])
    ∷ within tags.PUBLIC_KEY_TEMPLATE_ATTRIBUTE (curve_public_name ∷ public_usage ∷ [])
    ∷ [])

-- KMIP 1.0, 4.2
abbrev pub create_pair_row : Row
create_pair_row = row (codes "create-pair") operations.CreateKeyPair 4 Options
    (within tags.COMMON_TEMPLATE_ATTRIBUTE (key_algorithm ∷ key_bits ∷ [])
    ∷ within tags.PRIVATE_KEY_TEMPLATE_ATTRIBUTE (private_name ∷ private_usage ∷ [])
    ∷ within tags.PUBLIC_KEY_TEMPLATE_ATTRIBUTE (public_name ∷ public_usage ∷ [])
    ∷ [])

-- KMIP 1.0, 4.1
abbrev pub create_key_row : Row
create_key_row = row (codes "create-key") operations.Create 3 Options
    (own (symmetric_key ∷ [])
    ∷ within tags.TEMPLATE_ATTRIBUTE (key_algorithm ∷ key_bits ∷ key_name ∷ key_usage ∷ [])
    ∷ [])

-- KMIP 1.0, 4.9
abbrev pub check_row : Row
check_row = row (codes "check") operations.Check 1 Options
    (own (id ∷ count_wanted ∷ usage_wanted ∷ lease_wanted ∷ []) ∷ [])

-- KMIP 1.0, 4.12
abbrev pub attribute_list_row : Row
attribute_list_row = row (codes "attribute-list") operations.GetAttributeList 1 Options
    (object ∷ [])

-- KMIP 1.0, 4.16
abbrev pub lease_row : Row
lease_row = row (codes "lease") operations.ObtainLease 1 Options
    (object ∷ [])

-- KMIP 1.0, 4.17
abbrev pub usage_allocation_row : Row
usage_allocation_row = row (codes "usage-allocation") operations.GetUsageAllocation 2 Options
    (own (id ∷ count ∷ []) ∷ [])

-- KMIP 1.0, 4.21
abbrev pub archive_row : Row
archive_row = row (codes "archive") operations.Archive 1 Options
    (object ∷ [])

-- KMIP 1.0, 4.22
abbrev pub recover_row : Row
recover_row = row (codes "recover") operations.Recover 1 Options
    (object ∷ [])

-- KMIP 1.0, 4.23
abbrev pub validate_row : Row
validate_row = row (codes "validate") operations.Validate 1 Words
    (own (id ∷ ids ∷ []) ∷ [])

-- KMIP 1.0, 4.25
abbrev pub cancel_row : Row
cancel_row = row (codes "cancel") operations.Cancel 1 Options
    (own (correlation ∷ []) ∷ [])

-- KMIP 1.0, 4.26
abbrev pub poll_row : Row
poll_row = row (codes "poll") operations.Poll 1 Options
    (own (correlation ∷ []) ∷ [])

-- KMIP 1.2, 4.36
abbrev pub rng_seed_row : Row
rng_seed_row = row (codes "rng-seed") operations.RNGSeed 1 Options
    (own (seed ∷ []) ∷ [])

-- the calls
abbrev pub calls : List Row
calls =
    encrypt_row
    ∷ decrypt_row
    ∷ mac_row
    ∷ mac_verify_row
    ∷ verify_row
    ∷ hash_row
    ∷ derive_key_row
    ∷ rekey_row
    ∷ rekey_pair_row
    ∷ certify_row
    ∷ recertify_row
    ∷ create_ec_row
    ∷ create_pair_row
    ∷ create_key_row
    ∷ check_row
    ∷ attribute_list_row
    ∷ lease_row
    ∷ usage_allocation_row
    ∷ archive_row
    ∷ recover_row
    ∷ validate_row
    ∷ cancel_row
    ∷ poll_row
    ∷ rng_seed_row
    ∷ []
