-- The fields of payloads: which word gives each, and how it stands among the items.
use Rattle.std.specs.Prelude.{List, [], ◌∷◌, codes}
use Rattle.kmip_tags.specs.Tags as tags
use Rattle.kmip_operation_words.specs.declared.rows.Kind.TheVariants.{Identifier, Text, Hex, Handle, Int, Count, Seconds, Truth, Name, Uses}
use Rattle.kmip_operation_words.specs.Rows.{Field, field, bare, as_parameter, as_attribute, in_domain, as_name, word_at, each_behind, optional, needed, usual, always}

-- the identifier of the object
abbrev pub id : Field
id = field (codes "ID") (word_at 0) tags.UNIQUE_IDENTIFIER Identifier bare

-- the identifier of a second object
abbrev pub second_id : Field
second_id = field (codes "also=") optional tags.UNIQUE_IDENTIFIER Identifier bare

-- the identifiers of more objects
abbrev pub ids : Field
ids = field (codes "ID") each_behind tags.UNIQUE_IDENTIFIER Identifier bare

-- the identifier of a private key
abbrev pub private_id : Field
private_id = field (codes "ID") (word_at 0) tags.PRIVATE_KEY_UNIQUE_IDENTIFIER Identifier bare

-- how a block cipher is used: KMIP 1.0, 9.1.3.2.13
abbrev pub mode : Field
mode = field (codes "mode=") optional tags.BLOCK_CIPHER_MODE Name as_parameter

-- how data is padded: KMIP 1.0, 9.1.3.2.14
abbrev pub padding : Field
padding = field (codes "padding=") optional tags.PADDING_METHOD Name as_parameter

-- the hashing algorithm: KMIP 1.0, 9.1.3.2.15
abbrev pub hash : Field
hash = field (codes "hash=") optional tags.HASHING_ALGORITHM Name as_parameter

-- what the key is for: KMIP 1.0, 9.1.3.2.16
abbrev pub role : Field
role = field (codes "role=") optional tags.KEY_ROLE_TYPE Name as_parameter

-- the algorithm of a signature, with its hash: KMIP 1.2, 9.1.3.2.7
abbrev pub signature_algorithm : Field
signature_algorithm = field (codes "signature-algorithm=") optional tags.DIGITAL_SIGNATURE_ALGORITHM Name as_parameter

-- the cryptographic algorithm: KMIP 1.0, 9.1.3.2.12
abbrev pub algorithm : Field
algorithm = field (codes "algorithm=") optional tags.CRYPTOGRAPHIC_ALGORITHM Name as_parameter

-- whether the server makes the initialization vector
abbrev pub random_iv : Field
random_iv = field (codes "random-iv=") optional tags.RANDOM_IV Truth as_parameter

-- the length of the initialization vector, in bits
abbrev pub iv_length : Field
iv_length = field (codes "iv-length=") optional tags.IV_LENGTH Int as_parameter

-- the length of the authentication tag, in bytes
abbrev pub tag_length : Field
tag_length = field (codes "tag-length=") optional tags.TAG_LENGTH Int as_parameter

-- the length of the fixed part of a counter, in bits
abbrev pub fixed_field_length : Field
fixed_field_length = field (codes "fixed-field-length=") optional tags.FIXED_FIELD_LENGTH Int as_parameter

-- the length of the invocation part of a counter, in bits
abbrev pub invocation_field_length : Field
invocation_field_length = field (codes "invocation-field-length=") optional tags.INVOCATION_FIELD_LENGTH Int as_parameter

-- the length of the counter, in bits
abbrev pub counter_length : Field
counter_length = field (codes "counter-length=") optional tags.COUNTER_LENGTH Int as_parameter

-- the first value of the counter
abbrev pub initial_counter : Field
initial_counter = field (codes "initial-counter=") optional tags.INITIAL_COUNTER_VALUE Int as_parameter

-- the data that the object is used on
abbrev pub object_data : Field
object_data = field (codes "DATA") (word_at 1) tags.DATA Hex bare

-- the initialization vector, the counter or the nonce
abbrev pub iv : Field
iv = field (codes "iv=") optional tags.IV_COUNTER_NONCE Hex bare

-- the message authentication code
abbrev pub mac : Field
mac = field (codes "MAC") (word_at 2) tags.MAC_DATA Hex bare

-- the signature
abbrev pub signature : Field
signature = field (codes "SIGNATURE") (word_at 2) tags.SIGNATURE_DATA Hex bare

-- the hashing algorithm, which is needed
abbrev pub hashed_by : Field
hashed_by = field (codes "hash=") needed tags.HASHING_ALGORITHM Name as_parameter

-- the data, of no object
abbrev pub data_alone : Field
data_alone = field (codes "DATA") (word_at 0) tags.DATA Hex bare

-- the type of the new object, a symmetric key where none is given
abbrev pub type : Field
type = field (codes "type=") (usual (codes "SymmetricKey")) tags.OBJECT_TYPE Name bare

-- the type of a symmetric key
abbrev pub symmetric_key : Field
symmetric_key = field (codes "type=") (always (codes "SymmetricKey")) tags.OBJECT_TYPE Name bare

-- how a key is derived: KMIP 1.0, 9.1.3.2.20
abbrev pub method : Field
method = field (codes "METHOD") (word_at 1) tags.DERIVATION_METHOD Name bare

-- the algorithm that encrypts in a derivation: KMIP 1.2, 3.6
abbrev pub cipher : Field
cipher = field (codes "cipher=") optional tags.CRYPTOGRAPHIC_ALGORITHM Name as_parameter

-- the initialization vector of a derivation: KMIP 1.0, 4.5
abbrev pub derivation_iv : Field
derivation_iv = field (codes "iv=") optional tags.INITIALIZATION_VECTOR Hex bare

-- the data of a derivation
abbrev pub derivation_data : Field
derivation_data = field (codes "data=") optional tags.DERIVATION_DATA Hex bare

-- the salt of a derivation
abbrev pub salt : Field
salt = field (codes "salt=") optional tags.SALT Hex bare

-- how often a derivation hashes
abbrev pub iterations : Field
iterations = field (codes "iterations=") optional tags.ITERATION_COUNT Int bare

-- the algorithm of the new object: KMIP 1.0, 3.4
abbrev pub algorithm_attribute : Field
algorithm_attribute = field (codes "algorithm=") optional tags.CRYPTOGRAPHIC_ALGORITHM Name (as_attribute (codes "Cryptographic Algorithm"))

-- the length of the new object, in bits, which is needed: KMIP 1.0, 3.5
abbrev pub length_needed : Field
length_needed = field (codes "length=") needed tags.CRYPTOGRAPHIC_LENGTH Int (as_attribute (codes "Cryptographic Length"))

-- the length of the new keys, in bits: KMIP 1.0, 3.5
abbrev pub length : Field
length = field (codes "length=") optional tags.CRYPTOGRAPHIC_LENGTH Int (as_attribute (codes "Cryptographic Length"))

-- what the new object is for: KMIP 1.0, 3.14
abbrev pub usage_attribute : Field
usage_attribute = field (codes "usage=") optional tags.CRYPTOGRAPHIC_USAGE_MASK Uses (as_attribute (codes "Cryptographic Usage Mask"))

-- the name of the new object: KMIP 1.0, 3.2
abbrev pub name_given : Field
name_given = field (codes "name=") optional tags.NAME_VALUE Text as_name

-- the time from the new object's first date to its activation: KMIP 1.0, 4.4
abbrev pub offset : Field
offset = field (codes "offset=") optional tags.OFFSET Seconds bare

-- the form of a request for a certificate: KMIP 1.0, 9.1.3.2.21
abbrev pub request_type : Field
request_type = field (codes "request-type=") optional tags.CERTIFICATE_REQUEST_TYPE Name bare

-- a request for a certificate
abbrev pub request : Field
request = field (codes "request=") optional tags.CERTIFICATE_REQUEST Hex bare

-- the algorithm of keys on a curve, ECDSA where none is given
abbrev pub curve_algorithm : Field
curve_algorithm = field (codes "algorithm=") (usual (codes "ECDSA")) tags.CRYPTOGRAPHIC_ALGORITHM Name (as_attribute (codes "Cryptographic Algorithm"))

-- the curve: KMIP 1.0, 9.1.3.2.5
abbrev pub curve : Field
curve = field (codes "CURVE") (word_at 0) tags.RECOMMENDED_CURVE Name in_domain

-- the name of the private key on a curve
abbrev pub curve_private_name : Field
curve_private_name = field (codes "PRIVATE-NAME") (word_at 1) tags.NAME_VALUE Text as_name

-- the name of the public key on a curve
abbrev pub curve_public_name : Field
curve_public_name = field (codes "PUBLIC-NAME") (word_at 2) tags.NAME_VALUE Text as_name

-- what a private key is for, to sign where nothing is given
abbrev pub private_usage : Field
private_usage = field (codes "private-usage=") (usual (codes "Sign")) tags.CRYPTOGRAPHIC_USAGE_MASK Uses (as_attribute (codes "Cryptographic Usage Mask"))

-- what a public key is for, to verify where nothing is given
abbrev pub public_usage : Field
public_usage = field (codes "public-usage=") (usual (codes "Verify")) tags.CRYPTOGRAPHIC_USAGE_MASK Uses (as_attribute (codes "Cryptographic Usage Mask"))

-- the algorithm of the new keys
abbrev pub key_algorithm : Field
key_algorithm = field (codes "ALGORITHM") (word_at 0) tags.CRYPTOGRAPHIC_ALGORITHM Name (as_attribute (codes "Cryptographic Algorithm"))

-- the length of the new keys, in bits
abbrev pub key_bits : Field
key_bits = field (codes "BITS") (word_at 1) tags.CRYPTOGRAPHIC_LENGTH Int (as_attribute (codes "Cryptographic Length"))

-- the name of the private key
abbrev pub private_name : Field
private_name = field (codes "PRIVATE-NAME") (word_at 2) tags.NAME_VALUE Text as_name

-- the name of the public key
abbrev pub public_name : Field
public_name = field (codes "PUBLIC-NAME") (word_at 3) tags.NAME_VALUE Text as_name

-- the name of the new key
abbrev pub key_name : Field
key_name = field (codes "NAME") (word_at 2) tags.NAME_VALUE Text as_name

-- what the new key is for, to encrypt and to decrypt where nothing is given
abbrev pub key_usage : Field
key_usage = field (codes "usage=") (usual (codes "Encrypt,Decrypt")) tags.CRYPTOGRAPHIC_USAGE_MASK Uses (as_attribute (codes "Cryptographic Usage Mask"))

-- how much use is to be left: KMIP 1.0, 4.9
abbrev pub count_wanted : Field
count_wanted = field (codes "count=") optional tags.USAGE_LIMITS_COUNT Count bare

-- the uses that are to be allowed: KMIP 1.0, 4.9
abbrev pub usage_wanted : Field
usage_wanted = field (codes "usage=") optional tags.CRYPTOGRAPHIC_USAGE_MASK Uses bare

-- the lease that is wanted: KMIP 1.0, 4.9
abbrev pub lease_wanted : Field
lease_wanted = field (codes "lease=") optional tags.LEASE_TIME Seconds bare

-- how much use is allocated: KMIP 1.0, 4.17
abbrev pub count : Field
count = field (codes "COUNT") (word_at 1) tags.USAGE_LIMITS_COUNT Count bare

-- the value that names an operation that has not ended: KMIP 1.0, 6.8
abbrev pub correlation : Field
correlation = field (codes "HEX") (word_at 0) tags.ASYNCHRONOUS_CORRELATION_VALUE Handle bare

-- bytes for the random numbers
abbrev pub seed : Field
seed = field (codes "HEX") (word_at 0) tags.DATA Hex bare

-- Cryptographic Parameters: KMIP 1.2, 3.6
abbrev pub parameters : List Field
parameters =
    mode
    ∷ padding
    ∷ hash
    ∷ role
    ∷ signature_algorithm
    ∷ algorithm
    ∷ random_iv
    ∷ iv_length
    ∷ tag_length
    ∷ fixed_field_length
    ∷ invocation_field_length
    ∷ counter_length
    ∷ initial_counter
    ∷ []
