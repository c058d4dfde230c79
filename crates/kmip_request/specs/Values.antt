-- The meaning of the typed values of a request: each is a record of its fields in the order of its
-- table.
use Rattle.std.specs.Prelude.{pos, Option, None}
use Rattle.kmip_shape.specs.Val.{Val, Number, Text, Record, Case, AndField, NoField, Absent, One, Many, NoVal, AndVal}
use Rattle.kmip_shape.specs.Writes.{optional, optional_list, vals}
use Rattle.kmip_types.specs.Texts.{unique_identifier_val}
use Rattle.kmip_types.specs.AttributeNames.{attribute_name_val}
use Rattle.kmip_types.specs.Numbers.{attribute_index_val, compromise_occurrence_date_val, data_length_val}
use Rattle.kmip_types.specs.Parameters.{cryptographic_parameters_val}
use Rattle.kmip_types.specs.KeyFormatTypes.{key_format_type_val}
use Rattle.kmip_types.specs.KeyCompressionTypes.{key_compression_type_val}
use Rattle.kmip_enums.specs.ObjectTypes.{object_type_val}
use Rattle.kmip_enums.specs.QueryFunctions.{query_function_val}
use Rattle.kmip_types.specs.ByteStrings.{data_val, unique_batch_item_id_val}
use Rattle.kmip_enums.specs.Operations.{operation_val}
use Rattle.kmip_enums.specs.declared.operation.Operation.{Operation}
use Rattle.kmip_enums.specs.CredentialTypes.{credential_type_val}
use Rattle.kmip_request.specs.declared.numbers.ProtocolVersionMajor.{ProtocolVersionMajor}
use Rattle.kmip_request.specs.declared.numbers.ProtocolVersionMinor.{ProtocolVersionMinor}
use Rattle.kmip_request.specs.declared.numbers.MaximumResponseSize.{MaximumResponseSize}
use Rattle.kmip_request.specs.declared.numbers.BatchCount.{BatchCount}
use Rattle.kmip_request.specs.declared.authentication.Username.{Username}
use Rattle.kmip_request.specs.declared.authentication.Password.{Password}
use Rattle.kmip_request.specs.declared.header.ProtocolVersion.{ProtocolVersion}
use Rattle.kmip_request.specs.declared.header.RequestHeader.{RequestHeader}
use Rattle.kmip_request.specs.declared.authentication.CredentialValue.{CredentialValue}
use Rattle.kmip_request.specs.declared.authentication.CredentialValue.TheVariants.{UsernameAndPassword}
use Rattle.kmip_request.specs.declared.authentication.Credential.{Credential}
use Rattle.kmip_request.specs.declared.authentication.Authentication.{Authentication}
use Rattle.kmip_request.specs.declared.message.BatchItem.{BatchItem}
use Rattle.kmip_request.specs.declared.message.RequestMessage.{RequestMessage}
use Rattle.kmip_request.specs.declared.payload.RequestPayload.{RequestPayload}
use Rattle.kmip_request.specs.declared.payload.RequestPayload.TheVariants.{Create, CreateKeyPair, Register, Locate, Get, GetAttributes, GetAttributeList, AddAttribute, ModifyAttribute, DeleteAttribute, Activate, Revoke, Destroy, Query, DiscoverVersions, Sign, RNGRetrieve}
use Rattle.kmip_request_objects.specs.Values.{attribute_val, template_attribute_val, common_template_attribute_val, private_key_template_attribute_val, public_key_template_attribute_val, key_wrapping_specification_val, managed_object_val, revocation_reason_val}

abbrev pub major_val : ProtocolVersionMajor → Val
major_val x = Number x.0

abbrev pub minor_val : ProtocolVersionMinor → Val
minor_val x = Number x.0

abbrev pub size_val : MaximumResponseSize → Val
size_val x = Number x.0

abbrev pub count_val : BatchCount → Val
count_val x = Number x.0

abbrev pub username_val : Username → Val
username_val x = Text x.0

abbrev pub password_val : Password → Val
password_val x = Text x.0

abbrev pub protocol_version_val : ProtocolVersion → Val
protocol_version_val x = Record
    (AndField (One (major_val x.0))
    (AndField (One (minor_val x.1))
    NoField))

abbrev pub credential_value_val : CredentialValue → Val
credential_value_val (UsernameAndPassword username password) = Case 1 (Record
    (AndField (One (username_val username))
    (AndField (optional password_val password)
    NoField)))

abbrev pub credential_val : Credential → Val
credential_val x = Record
    (AndField (One (credential_type_val x.0))
    (AndField (One (credential_value_val x.1))
    NoField))

abbrev pub authentication_val : Authentication → Val
authentication_val x = Record
    (AndField (One (credential_val x.0))
    NoField)

abbrev pub request_header_val : RequestHeader → Val
request_header_val x = Record
    (AndField (One (protocol_version_val x.0))
    (AndField (optional size_val x.1)
    (AndField (optional authentication_val x.2)
    (AndField (One (count_val x.3))
    NoField))))

-- a payload is the case of its operation's number
abbrev pub request_payload_val : RequestPayload → Val
request_payload_val (Create object_type template) =
    Case 1 (Record (AndField (One (object_type_val object_type))
    (AndField (One (template_attribute_val template)) NoField)))
request_payload_val (CreateKeyPair common private_key public_key) =
    Case 2 (Record (AndField (optional common_template_attribute_val common)
    (AndField (optional private_key_template_attribute_val private_key)
    (AndField (optional public_key_template_attribute_val public_key) NoField))))
request_payload_val (Register object_type template object) =
    Case 3 (Record (AndField (One (object_type_val object_type))
    (AndField (One (template_attribute_val template))
    (AndField (optional managed_object_val object) NoField))))
request_payload_val (Locate attributes) =
    Case 8 (Record (AndField (Many (vals attribute_val attributes)) NoField))
request_payload_val (Get id format compression specification) =
    Case 10 (Record (AndField (optional unique_identifier_val id)
    (AndField (optional key_format_type_val format)
    (AndField (optional key_compression_type_val compression)
    (AndField (optional key_wrapping_specification_val specification) NoField)))))
request_payload_val (GetAttributes id names) =
    Case 11 (Record (AndField (optional unique_identifier_val id)
    (AndField (optional_list attribute_name_val names) NoField)))
request_payload_val (GetAttributeList id) =
    Case 12 (Record (AndField (optional unique_identifier_val id) NoField))
request_payload_val (AddAttribute id attribute) =
    Case 13 (Record (AndField (optional unique_identifier_val id)
    (AndField (One (attribute_val attribute)) NoField)))
request_payload_val (ModifyAttribute id attribute) =
    Case 14 (Record (AndField (optional unique_identifier_val id)
    (AndField (One (attribute_val attribute)) NoField)))
request_payload_val (DeleteAttribute id name index) =
    Case 15 (Record (AndField (optional unique_identifier_val id)
    (AndField (One (attribute_name_val name))
    (AndField (optional attribute_index_val index) NoField))))
request_payload_val (Activate id) =
    Case 18 (Record (AndField (optional unique_identifier_val id) NoField))
request_payload_val (Revoke id reason date) =
    Case 19 (Record (AndField (optional unique_identifier_val id)
    (AndField (One (revocation_reason_val reason))
    (AndField (optional compromise_occurrence_date_val date) NoField))))
request_payload_val (Destroy id) =
    Case 20 (Record (AndField (optional unique_identifier_val id) NoField))
request_payload_val (Query functions) =
    Case 24 (Record (AndField (Many (vals query_function_val functions)) NoField))
request_payload_val (DiscoverVersions versions) =
    Case 30 (Record (AndField (Many (vals protocol_version_val versions)) NoField))
request_payload_val (Sign id parameters contents) =
    Case 33 (Record (AndField (optional unique_identifier_val id)
    (AndField (optional cryptographic_parameters_val parameters)
    (AndField (One (data_val contents)) NoField))))
request_payload_val (RNGRetrieve length) =
    Case 37 (Record (AndField (One (data_length_val length)) NoField))

abbrev pub batch_item_val : BatchItem → Val
batch_item_val x = Record
    (AndField (One (operation_val x.0))
    (AndField (optional unique_batch_item_id_val x.1)
    (AndField (One (request_payload_val x.2))
    NoField)))

abbrev pub request_message_val : RequestMessage → Val
request_message_val x = Record
    (AndField (One (request_header_val x.0))
    (AndField (Many (vals batch_item_val x.1))
    NoField))

-- The message that is written for a payload: a header with its version and the credential, and one
-- batch item with no identifier.
abbrev pub lent_header_val : ProtocolVersion → Option Authentication → Val
lent_header_val version authentication =
    request_header_val (record {
      0 = version;
      1 = None;
      2 = authentication;
      3 = record { 0 = pos 1 };
    })

abbrev pub lent_item_val : Operation → Val → Val
lent_item_val operation payload = Record
    (AndField (One (operation_val operation))
    (AndField Absent
    (AndField (One payload)
    NoField)))

abbrev pub lent_message_val : ProtocolVersion → Option Authentication → Operation → Val → Val
lent_message_val version authentication operation payload = Record
    (AndField (One (lent_header_val version authentication))
    (AndField (Many (AndVal (lent_item_val operation payload) NoVal))
    NoField))
