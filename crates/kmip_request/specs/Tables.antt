-- The tables of a request: for each type its fields in order, with their tags, marks and types.
use Rattle.std.specs.Prelude.{Bool, true, ◌&&◌, List, [], ◌∷◌, None, codes}
use Rattle.kmip_tags.specs.Tags.{ATTRIBUTE, ATTRIBUTE_INDEX, ATTRIBUTE_NAME, AUTHENTICATION, BATCH_COUNT, BATCH_ITEM, COMMON_TEMPLATE_ATTRIBUTE, COMPROMISE_OCCURRENCE_DATE, CREDENTIAL, CREDENTIAL_TYPE, CREDENTIAL_VALUE, CRYPTOGRAPHIC_PARAMETERS, DATA, DATA_LENGTH, KEY_COMPRESSION_TYPE, KEY_FORMAT_TYPE, KEY_WRAPPING_SPECIFICATION, MAXIMUM_RESPONSE_SIZE, OBJECT_TYPE, OPERATION, PASSWORD, PRIVATE_KEY_TEMPLATE_ATTRIBUTE, PROTOCOL_VERSION, PROTOCOL_VERSION_MAJOR, PROTOCOL_VERSION_MINOR, PUBLIC_KEY_TEMPLATE_ATTRIBUTE, QUERY_FUNCTION, REQUEST_HEADER, REQUEST_PAYLOAD, REVOCATION_REASON, TEMPLATE_ATTRIBUTE, UNIQUE_BATCH_ITEM_ID, UNIQUE_IDENTIFIER, USERNAME}
use Rattle.kmip_wire.specs.declared.kind.Kind.TheVariants.{Integer, TextString, ByteString, DateTime}
use Rattle.kmip_shape.specs.Shape.{Shape, Scalar, OneOf, Rows, NoRow, AndRow, Required, Optional, AnyNumber, OptionalList, Plain, Chooser, Chosen, Under, ByCase, Cases, NoCase, AndCase, Choice, OfNumber, OfTag, ByNumbers}
use Rattle.kmip_shape.specs.Fits.{tags_once, choosers_stand}
use Rattle.kmip_types.specs.Parameters.{cryptographic_parameters}
use Rattle.kmip_types.specs.KeyFormatTypes.{key_format_types}
use Rattle.kmip_types.specs.KeyCompressionTypes.{key_compression_types}
use Rattle.kmip_enums.specs.ObjectTypes.{object_types}
use Rattle.kmip_enums.specs.QueryFunctions.{query_functions}
use Rattle.kmip_enums.specs.Operations.{operations}
use Rattle.kmip_enums.specs.CredentialTypes.{credential_types}
use Rattle.kmip_request_objects.specs.Tables.{attribute, template_attribute, key_wrapping_specification, managed_objects, revocation_reason}

-- Protocol Version (KMIP 1.0, 6.1)
abbrev pub protocol_version : Shape
protocol_version = Rows
    (AndRow (codes "protocol_version_major") (Under PROTOCOL_VERSION_MAJOR) Required Plain
    (Scalar Integer)
    (AndRow (codes "protocol_version_minor") (Under PROTOCOL_VERSION_MINOR) Required Plain
    (Scalar Integer)
    NoRow))

-- the credential value of a username and a password (KMIP 1.0, 2.1.2)
abbrev pub username_and_password : Shape
username_and_password = Rows
    (AndRow (codes "username") (Under USERNAME) Required Plain (Scalar TextString)
    (AndRow (codes "password") (Under PASSWORD) Optional Plain (Scalar TextString)
    NoRow))

-- a credential value is chosen by the number of its credential's type (KMIP 1.0, 2.1.2)
abbrev pub credential_values : Cases
credential_values =
    AndCase 1 (codes "UsernameAndPassword") (ByNumbers (1 ∷ [])) None username_and_password
    NoCase

-- Credential (KMIP 1.0, 2.1.2)
abbrev pub credential : Shape
credential = Rows
    (AndRow (codes "credential_type") (Under CREDENTIAL_TYPE) Required Chooser
    (OneOf credential_types)
    (AndRow (codes "credential_value") (Under CREDENTIAL_VALUE) Required Chosen
    (Choice OfNumber credential_values)
    NoRow))

-- Authentication (KMIP 1.0, 6.6)
abbrev pub authentication : Shape
authentication = Rows
    (AndRow (codes "credential") (Under CREDENTIAL) Required Plain credential
    NoRow)

-- Request Header (KMIP 1.0, 7.2)
abbrev pub request_header : Shape
request_header = Rows
    (AndRow (codes "protocol_version") (Under PROTOCOL_VERSION) Required Plain protocol_version
    (AndRow (codes "maximum_response_size") (Under MAXIMUM_RESPONSE_SIZE) Optional Plain
    (Scalar Integer)
    (AndRow (codes "authentication") (Under AUTHENTICATION) Optional Plain authentication
    (AndRow (codes "batch_count") (Under BATCH_COUNT) Required Plain (Scalar Integer)
    NoRow))))

-- the payload of Create (KMIP 1.0, 4.1)
abbrev pub create : Shape
create = Rows
    (AndRow (codes "object_type") (Under OBJECT_TYPE) Required Plain (OneOf object_types)
    (AndRow (codes "template_attribute") (Under TEMPLATE_ATTRIBUTE) Required Plain
    template_attribute
    NoRow))

-- the payload of Create Key Pair (KMIP 1.0, 4.2)
abbrev pub create_key_pair : Shape
create_key_pair = Rows
    (AndRow (codes "common_template_attribute") (Under COMMON_TEMPLATE_ATTRIBUTE) Optional Plain
    template_attribute
    (AndRow (codes "private_key_template_attribute") (Under PRIVATE_KEY_TEMPLATE_ATTRIBUTE) Optional
    Plain template_attribute
    (AndRow (codes "public_key_template_attribute") (Under PUBLIC_KEY_TEMPLATE_ATTRIBUTE) Optional
    Plain template_attribute
    NoRow)))

-- the payload of Register (KMIP 1.0, 4.3)
abbrev pub register : Shape
register = Rows
    (AndRow (codes "object_type") (Under OBJECT_TYPE) Required Plain (OneOf object_types)
    (AndRow (codes "template_attribute") (Under TEMPLATE_ATTRIBUTE) Required Plain
    template_attribute
    (AndRow (codes "managed_object") ByCase Optional Plain (Choice OfTag managed_objects)
    NoRow)))

-- the payload of Locate (KMIP 1.0, 4.8)
abbrev pub locate : Shape
locate = Rows
    (AndRow (codes "attributes") (Under ATTRIBUTE) AnyNumber Plain attribute
    NoRow)

-- the payload of Get (KMIP 1.0, 4.10)
abbrev pub get : Shape
get = Rows
    (AndRow (codes "unique_identifier") (Under UNIQUE_IDENTIFIER) Optional Plain (Scalar TextString)
    (AndRow (codes "key_format_type") (Under KEY_FORMAT_TYPE) Optional Plain
    (OneOf key_format_types)
    (AndRow (codes "key_compression_type") (Under KEY_COMPRESSION_TYPE) Optional Plain
    (OneOf key_compression_types)
    (AndRow (codes "key_wrapping_specification") (Under KEY_WRAPPING_SPECIFICATION) Optional Plain
    key_wrapping_specification
    NoRow))))

-- the payload of Get Attributes (KMIP 1.0, 4.11)
abbrev pub get_attributes : Shape
get_attributes = Rows
    (AndRow (codes "unique_identifier") (Under UNIQUE_IDENTIFIER) Optional Plain (Scalar TextString)
    (AndRow (codes "attribute_names") (Under ATTRIBUTE_NAME) OptionalList Plain (Scalar TextString)
    NoRow))

-- the payload of Get Attribute List (KMIP 1.0, 4.12)
abbrev pub get_attribute_list : Shape
get_attribute_list = Rows
    (AndRow (codes "unique_identifier") (Under UNIQUE_IDENTIFIER) Optional Plain (Scalar TextString)
    NoRow)

-- the payload of Add Attribute (KMIP 1.0, 4.13)
abbrev pub add_attribute : Shape
add_attribute = Rows
    (AndRow (codes "unique_identifier") (Under UNIQUE_IDENTIFIER) Optional Plain (Scalar TextString)
    (AndRow (codes "attribute") (Under ATTRIBUTE) Required Plain attribute
    NoRow))

-- the payload of Modify Attribute (KMIP 1.0, 4.14)
abbrev pub modify_attribute : Shape
modify_attribute = Rows
    (AndRow (codes "unique_identifier") (Under UNIQUE_IDENTIFIER) Optional Plain (Scalar TextString)
    (AndRow (codes "attribute") (Under ATTRIBUTE) Required Plain attribute
    NoRow))

-- the payload of Delete Attribute (KMIP 1.0, 4.15)
abbrev pub delete_attribute : Shape
delete_attribute = Rows
    (AndRow (codes "unique_identifier") (Under UNIQUE_IDENTIFIER) Optional Plain (Scalar TextString)
    (AndRow (codes "attribute_name") (Under ATTRIBUTE_NAME) Required Plain (Scalar TextString)
    (AndRow (codes "attribute_index") (Under ATTRIBUTE_INDEX) Optional Plain (Scalar Integer)
    NoRow)))

-- the payload of Activate (KMIP 1.0, 4.18)
abbrev pub activate : Shape
activate = Rows
    (AndRow (codes "unique_identifier") (Under UNIQUE_IDENTIFIER) Optional Plain (Scalar TextString)
    NoRow)

-- the payload of Revoke (KMIP 1.0, 4.19)
abbrev pub revoke : Shape
revoke = Rows
    (AndRow (codes "unique_identifier") (Under UNIQUE_IDENTIFIER) Optional Plain (Scalar TextString)
    (AndRow (codes "revocation_reason") (Under REVOCATION_REASON) Required Plain revocation_reason
    (AndRow (codes "compromise_occurrence_date") (Under COMPROMISE_OCCURRENCE_DATE) Optional Plain
    (Scalar DateTime)
    NoRow)))

-- the payload of Destroy (KMIP 1.0, 4.20)
abbrev pub destroy : Shape
destroy = Rows
    (AndRow (codes "unique_identifier") (Under UNIQUE_IDENTIFIER) Optional Plain (Scalar TextString)
    NoRow)

-- the payload of Query (KMIP 1.0, 4.24)
abbrev pub query : Shape
query = Rows
    (AndRow (codes "query_functions") (Under QUERY_FUNCTION) AnyNumber Plain (OneOf query_functions)
    NoRow)

-- the payload of Discover Versions (KMIP 1.1, 4.26)
abbrev pub discover_versions : Shape
discover_versions = Rows
    (AndRow (codes "protocol_versions") (Under PROTOCOL_VERSION) AnyNumber Plain protocol_version
    NoRow)

-- the payload of Sign (KMIP 1.2, 4.31)
abbrev pub sign : Shape
sign = Rows
    (AndRow (codes "unique_identifier") (Under UNIQUE_IDENTIFIER) Optional Plain (Scalar TextString)
    (AndRow (codes "cryptographic_parameters") (Under CRYPTOGRAPHIC_PARAMETERS) Optional Plain
    cryptographic_parameters
    (AndRow (codes "data") (Under DATA) Required Plain (Scalar ByteString)
    NoRow)))

-- the payload of RNG Retrieve (KMIP 1.2, 4.35)
abbrev pub rng_retrieve : Shape
rng_retrieve = Rows
    (AndRow (codes "data_length") (Under DATA_LENGTH) Required Plain (Scalar Integer)
    NoRow)

-- a payload is chosen by the number of its batch item's operation (KMIP 1.0, 7.2)
abbrev pub request_payloads : Cases
request_payloads =
    AndCase 1 (codes "Create") (ByNumbers (1 ∷ [])) None create
    (AndCase 2 (codes "CreateKeyPair") (ByNumbers (2 ∷ [])) None create_key_pair
    (AndCase 3 (codes "Register") (ByNumbers (3 ∷ [])) None register
    (AndCase 8 (codes "Locate") (ByNumbers (8 ∷ [])) None locate
    (AndCase 10 (codes "Get") (ByNumbers (10 ∷ [])) None get
    (AndCase 11 (codes "GetAttributes") (ByNumbers (11 ∷ [])) None get_attributes
    (AndCase 12 (codes "GetAttributeList") (ByNumbers (12 ∷ [])) None get_attribute_list
    (AndCase 13 (codes "AddAttribute") (ByNumbers (13 ∷ [])) None add_attribute
    (AndCase 14 (codes "ModifyAttribute") (ByNumbers (14 ∷ [])) None modify_attribute
    (AndCase 15 (codes "DeleteAttribute") (ByNumbers (15 ∷ [])) None delete_attribute
    (AndCase 18 (codes "Activate") (ByNumbers (18 ∷ [])) None activate
    (AndCase 19 (codes "Revoke") (ByNumbers (19 ∷ [])) None revoke
    (AndCase 20 (codes "Destroy") (ByNumbers (20 ∷ [])) None destroy
    (AndCase 24 (codes "Query") (ByNumbers (24 ∷ [])) None query
    (AndCase 30 (codes "DiscoverVersions") (ByNumbers (30 ∷ [])) None discover_versions
    (AndCase 33 (codes "Sign") (ByNumbers (33 ∷ [])) None sign
    (AndCase 37 (codes "RNGRetrieve") (ByNumbers (37 ∷ [])) None rng_retrieve
    NoCase))))))))))))))))

abbrev pub request_payload : Shape
request_payload = Choice OfNumber request_payloads

-- Batch Item of a request (KMIP 1.0, 7.2), for a payload of this shape
abbrev pub batch_item_of : Shape → Shape
batch_item_of payload = Rows
    (AndRow (codes "operation") (Under OPERATION) Required Chooser (OneOf operations)
    (AndRow (codes "unique_batch_item_id") (Under UNIQUE_BATCH_ITEM_ID) Optional Plain
    (Scalar ByteString)
    (AndRow (codes "request_payload") (Under REQUEST_PAYLOAD) Required Chosen payload
    NoRow)))

abbrev pub batch_item : Shape
batch_item = batch_item_of request_payload

-- Request Message (KMIP 1.0, 7.1), for payloads of this shape
abbrev pub request_message_of : Shape → Shape
request_message_of payload = Rows
    (AndRow (codes "request_header") (Under REQUEST_HEADER) Required Plain request_header
    (AndRow (codes "batch_items") (Under BATCH_ITEM) AnyNumber Plain (batch_item_of payload)
    NoRow))

abbrev pub request_message : Shape
request_message = request_message_of request_payload

-- the tables above: of a message, of the structures in it, and of each payload
abbrev pub root_tables : List Shape
root_tables =
    request_message ∷ batch_item ∷ request_header ∷ protocol_version ∷ authentication ∷ credential ∷
    username_and_password ∷ request_payload ∷ create ∷ create_key_pair ∷ register ∷ locate ∷ get ∷
    get_attributes ∷ get_attribute_list ∷ add_attribute ∷ modify_attribute ∷ delete_attribute ∷
    activate ∷ revoke ∷ destroy ∷ query ∷ discover_versions ∷ sign ∷ rng_retrieve ∷ []

-- In each table no tag appears twice, at any depth, and at most one of its own fields chooses, above
-- what it chooses. So a table with a field that chooses is in a list itself, wherever it is used.
abbrev pub all_stand : List Shape → Bool
all_stand [] = true
all_stand (table ∷ tables) = tags_once table && (choosers_stand table && all_stand tables)
