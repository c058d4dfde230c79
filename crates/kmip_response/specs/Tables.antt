-- The tables of a response: for each type its fields in order, with their tags, marks and types.
use Rattle.std.specs.Prelude.{[], ◌∷◌, None, codes}
use Rattle.kmip_tags.specs.Tags.{ATTRIBUTE, ATTRIBUTE_NAME, BATCH_COUNT, BATCH_ITEM, CRITICALITY_INDICATOR, DATA, MESSAGE_EXTENSION, OBJECT_TYPE, OPERATION, PRIVATE_KEY_UNIQUE_IDENTIFIER, PROTOCOL_VERSION, PROTOCOL_VERSION_MAJOR, PROTOCOL_VERSION_MINOR, PUBLIC_KEY_UNIQUE_IDENTIFIER, RESPONSE_HEADER, RESPONSE_PAYLOAD, RESULT_MESSAGE, RESULT_REASON, RESULT_STATUS, SIGNATURE_DATA, TEMPLATE_ATTRIBUTE, TIME_STAMP, UNIQUE_BATCH_ITEM_ID, UNIQUE_IDENTIFIER, VENDOR_IDENTIFICATION}
use Rattle.kmip_wire.specs.declared.kind.Kind.TheVariants.{Integer, Boolean, TextString, ByteString, DateTime}
use Rattle.kmip_shape.specs.Shape.{Shape, Scalar, OneOf, Rows, NoRow, AndRow, Required, Optional, AnyNumber, AtLeastOne, OptionalList, Plain, Chooser, Chosen, Under, ByCase, Cases, NoCase, AndCase, Choice, OfNumber, ByNumbers}
use Rattle.kmip_enums.specs.Operations.{operations}
use Rattle.kmip_enums.specs.ResultStatuses.{result_statuses}
use Rattle.kmip_enums.specs.ResultReasons.{result_reasons}
use Rattle.kmip_enums.specs.ObjectTypes.{object_types}
use Rattle.kmip_response_objects.specs.Tables.{attribute, template_attribute, managed_objects}

-- Protocol Version (KMIP 1.0, 6.1)
abbrev pub protocol_version : Shape
protocol_version = Rows
    (AndRow (codes "major") (Under PROTOCOL_VERSION_MAJOR) Required Plain (Scalar Integer)
    (AndRow (codes "minor") (Under PROTOCOL_VERSION_MINOR) Required Plain (Scalar Integer)
    NoRow))

-- Response Header (KMIP 1.0, 7.2)
abbrev pub response_header : Shape
response_header = Rows
    (AndRow (codes "protocol_version") (Under PROTOCOL_VERSION) Required Plain protocol_version
    (AndRow (codes "timestamp") (Under TIME_STAMP) Required Plain (Scalar DateTime)
    (AndRow (codes "batch_count") (Under BATCH_COUNT) Required Plain (Scalar Integer)
    NoRow)))

-- Message Extension (KMIP 1.0, 6.16); its vendor extension is skipped
abbrev pub message_extension : Shape
message_extension = Rows
    (AndRow (codes "vendor_identification") (Under VENDOR_IDENTIFICATION) Required Plain
    (Scalar TextString)
    (AndRow (codes "criticality_indicator") (Under CRITICALITY_INDICATOR) Required Plain
    (Scalar Boolean)
    NoRow))

-- the payload of Create (KMIP 1.0, 4.1)
abbrev pub create_payload : Shape
create_payload = Rows
    (AndRow (codes "object_type") (Under OBJECT_TYPE) Required Plain (OneOf object_types)
    (AndRow (codes "unique_identifier") (Under UNIQUE_IDENTIFIER) Required Plain (Scalar TextString)
    (AndRow (codes "object_attributes") (Under ATTRIBUTE) OptionalList Plain attribute
    NoRow)))

-- the payload of Create Key Pair (KMIP 1.0, 4.2)
abbrev pub create_key_pair_payload : Shape
create_key_pair_payload = Rows
    (AndRow (codes "private_key_unique_identifier") (Under PRIVATE_KEY_UNIQUE_IDENTIFIER) Required
    Plain (Scalar TextString)
    (AndRow (codes "public_key_unique_identifier") (Under PUBLIC_KEY_UNIQUE_IDENTIFIER) Required
    Plain (Scalar TextString)
    NoRow))

-- the payload of Register (KMIP 1.0, 4.3)
abbrev pub register_payload : Shape
register_payload = Rows
    (AndRow (codes "unique_identifier") (Under UNIQUE_IDENTIFIER) Required Plain (Scalar TextString)
    (AndRow (codes "template_attributes") (Under TEMPLATE_ATTRIBUTE) OptionalList Plain
    template_attribute
    NoRow))

-- the payload of Locate (KMIP 1.0, 4.8)
abbrev pub locate_payload : Shape
locate_payload = Rows
    (AndRow (codes "unique_identifiers") (Under UNIQUE_IDENTIFIER) AnyNumber Plain
    (Scalar TextString)
    NoRow)

-- the payload of Get (KMIP 1.0, 4.10)
abbrev pub get_payload : Shape
get_payload = Rows
    (AndRow (codes "object_type") (Under OBJECT_TYPE) Required Chooser (OneOf object_types)
    (AndRow (codes "unique_identifier") (Under UNIQUE_IDENTIFIER) Required Plain (Scalar TextString)
    (AndRow (codes "cryptographic_object") ByCase Required Chosen (Choice OfNumber managed_objects)
    NoRow)))

-- the payload of Get Attributes (KMIP 1.0, 4.11)
abbrev pub get_attributes_payload : Shape
get_attributes_payload = Rows
    (AndRow (codes "unique_identifier") (Under UNIQUE_IDENTIFIER) Required Plain (Scalar TextString)
    (AndRow (codes "attributes") (Under ATTRIBUTE) OptionalList Plain attribute
    NoRow))

-- the payload of Get Attribute List (KMIP 1.0, 4.12)
abbrev pub get_attribute_list_payload : Shape
get_attribute_list_payload = Rows
    (AndRow (codes "unique_identifier") (Under UNIQUE_IDENTIFIER) Required Plain (Scalar TextString)
    (AndRow (codes "attributes") (Under ATTRIBUTE_NAME) AtLeastOne Plain (Scalar TextString)
    NoRow))

-- the payload of Add Attribute, Modify Attribute and Delete Attribute (KMIP 1.0, 4.13 to 4.15)
abbrev pub attribute_edit_payload : Shape
attribute_edit_payload = Rows
    (AndRow (codes "unique_identifier") (Under UNIQUE_IDENTIFIER) Required Plain (Scalar TextString)
    (AndRow (codes "attribute") (Under ATTRIBUTE) Required Plain attribute
    NoRow))

-- the payload of Activate, Revoke and Destroy (KMIP 1.0, 4.18 to 4.20)
abbrev pub unique_identifier_payload : Shape
unique_identifier_payload = Rows
    (AndRow (codes "unique_identifier") (Under UNIQUE_IDENTIFIER) Required Plain (Scalar TextString)
    NoRow)

-- the payload of Query (KMIP 1.0, 4.24); Server Information is skipped
abbrev pub query_payload : Shape
query_payload = Rows
    (AndRow (codes "operations") (Under OPERATION) OptionalList Plain (OneOf operations)
    (AndRow (codes "object_types") (Under OBJECT_TYPE) OptionalList Plain (OneOf object_types)
    (AndRow (codes "vendor_identification") (Under VENDOR_IDENTIFICATION) Optional Plain
    (Scalar TextString)
    NoRow)))

-- the payload of Discover Versions (KMIP 1.1, 4.26)
abbrev pub discover_versions_payload : Shape
discover_versions_payload = Rows
    (AndRow (codes "supported_versions") (Under PROTOCOL_VERSION) OptionalList Plain
    protocol_version
    NoRow)

-- the payload of Sign (KMIP 1.2, 4.31)
abbrev pub sign_payload : Shape
sign_payload = Rows
    (AndRow (codes "unique_identifier") (Under UNIQUE_IDENTIFIER) Required Plain (Scalar TextString)
    (AndRow (codes "signature_data") (Under SIGNATURE_DATA) Required Plain (Scalar ByteString)
    NoRow))

-- the payload of RNG Retrieve (KMIP 1.2, 4.35)
abbrev pub rng_retrieve_payload : Shape
rng_retrieve_payload = Rows
    (AndRow (codes "random_bytes") (Under DATA) Required Plain (Scalar ByteString)
    NoRow)

-- the operation of a batch item chooses its payload, by its number
abbrev pub response_payloads : Cases
response_payloads =
    AndCase 1 (codes "Create") (ByNumbers (1 ∷ [])) None create_payload
    (AndCase 2 (codes "CreateKeyPair") (ByNumbers (2 ∷ [])) None create_key_pair_payload
    (AndCase 3 (codes "Register") (ByNumbers (3 ∷ [])) None register_payload
    (AndCase 8 (codes "Locate") (ByNumbers (8 ∷ [])) None locate_payload
    (AndCase 10 (codes "Get") (ByNumbers (10 ∷ [])) None get_payload
    (AndCase 11 (codes "GetAttributes") (ByNumbers (11 ∷ [])) None get_attributes_payload
    (AndCase 12 (codes "GetAttributeList") (ByNumbers (12 ∷ [])) None get_attribute_list_payload
    (AndCase 13 (codes "AddAttribute") (ByNumbers (13 ∷ [])) None attribute_edit_payload
    (AndCase 14 (codes "ModifyAttribute") (ByNumbers (14 ∷ [])) None attribute_edit_payload
    (AndCase 15 (codes "DeleteAttribute") (ByNumbers (15 ∷ [])) None attribute_edit_payload
    (AndCase 18 (codes "Activate") (ByNumbers (18 ∷ [])) None unique_identifier_payload
    (AndCase 19 (codes "Revoke") (ByNumbers (19 ∷ [])) None unique_identifier_payload
    (AndCase 20 (codes "Destroy") (ByNumbers (20 ∷ [])) None unique_identifier_payload
    (AndCase 24 (codes "Query") (ByNumbers (24 ∷ [])) None query_payload
    (AndCase 30 (codes "DiscoverVersions") (ByNumbers (30 ∷ [])) None discover_versions_payload
    (AndCase 33 (codes "Sign") (ByNumbers (33 ∷ [])) None sign_payload
    (AndCase 37 (codes "RNGRetrieve") (ByNumbers (37 ∷ [])) None rng_retrieve_payload
    NoCase))))))))))))))))

abbrev pub response_payload : Shape
response_payload = Choice OfNumber response_payloads

-- Batch Item of a response (KMIP 1.0, 7.2)
abbrev pub batch_item : Shape
batch_item = Rows
    (AndRow (codes "operation") (Under OPERATION) Optional Chooser (OneOf operations)
    (AndRow (codes "unique_batch_item_id") (Under UNIQUE_BATCH_ITEM_ID) Optional Plain
    (Scalar ByteString)
    (AndRow (codes "result_status") (Under RESULT_STATUS) Required Plain (OneOf result_statuses)
    (AndRow (codes "result_reason") (Under RESULT_REASON) Optional Plain (OneOf result_reasons)
    (AndRow (codes "result_message") (Under RESULT_MESSAGE) Optional Plain (Scalar TextString)
    (AndRow (codes "payload") (Under RESPONSE_PAYLOAD) Optional Chosen response_payload
    (AndRow (codes "message_extension") (Under MESSAGE_EXTENSION) Optional Plain message_extension
    NoRow)))))))

-- Response Message (KMIP 1.0, 7.1)
abbrev pub response_message : Shape
response_message = Rows
    (AndRow (codes "header") (Under RESPONSE_HEADER) Required Plain response_header
    (AndRow (codes "batch_items") (Under BATCH_ITEM) AtLeastOne Plain batch_item
    NoRow))
