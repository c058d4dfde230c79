-- The typed values of a response, as contracts see them: each a record of its fields in the order
-- of its table.
use Rattle.kmip_shape.specs.Val.{Val, Number, Text, Bytes, Truth, Record, Case, AndField, NoField, One, Many}
use Rattle.kmip_shape.specs.Writes.{optional, optional_list, vals}
use Rattle.kmip_shape.specs.Dates.{date_val}
use Rattle.kmip_types.specs.ByteStrings.{unique_batch_item_id_val}
use Rattle.kmip_enums.specs.ResultStatuses.{result_status_val}
use Rattle.kmip_enums.specs.ResultReasons.{result_reason_val}
use Rattle.kmip_enums.specs.ObjectTypes.{object_type_val}
use Rattle.kmip_types.specs.Texts.{unique_identifier_val}
use Rattle.kmip_response_objects.specs.Values.{attribute_val, template_attribute_val, managed_object_val}
use Rattle.kmip_types.specs.AttributeNames.{attribute_name_val}
use Rattle.kmip_enums.specs.Operations.{operation_val}
use Rattle.kmip_response.specs.declared.payloads.identifiers.CreateResponsePayload.{CreateResponsePayload}
use Rattle.kmip_response.specs.declared.payloads.identifiers.CreateKeyPairResponsePayload.{CreateKeyPairResponsePayload}
use Rattle.kmip_response.specs.declared.payloads.identifiers.RegisterResponsePayload.{RegisterResponsePayload}
use Rattle.kmip_response.specs.declared.payloads.identifiers.LocateResponsePayload.{LocateResponsePayload}
use Rattle.kmip_response.specs.declared.payloads.get.GetResponsePayload.{GetResponsePayload}
use Rattle.kmip_response.specs.declared.payloads.attributes.GetAttributesResponsePayload.{GetAttributesResponsePayload}
use Rattle.kmip_response.specs.declared.payloads.attributes.GetAttributeListResponsePayload.{GetAttributeListResponsePayload}
use Rattle.kmip_response.specs.declared.payloads.attributes.AttributeEditResponsePayload.{AttributeEditResponsePayload}
use Rattle.kmip_response.specs.declared.payloads.identifiers.UniqueIdentifierResponsePayload.{UniqueIdentifierResponsePayload}
use Rattle.kmip_response.specs.declared.payloads.query.QueryResponsePayload.{QueryResponsePayload}
use Rattle.kmip_response.specs.declared.payloads.server.DiscoverVersionsResponsePayload.{DiscoverVersionsResponsePayload}
use Rattle.kmip_response.specs.declared.payloads.cryptography.SignResponsePayload.{SignResponsePayload}
use Rattle.kmip_response.specs.declared.payloads.cryptography.RNGRetrieveResponsePayload.{RNGRetrieveResponsePayload}
use Rattle.kmip_response.specs.declared.header.ProtocolVersion.{ProtocolVersion}
use Rattle.kmip_response.specs.declared.header.ResponseHeader.{ResponseHeader}
use Rattle.kmip_response.specs.declared.extension.MessageExtension.{MessageExtension}
use Rattle.kmip_response.specs.declared.payload.ResponsePayload.{ResponsePayload}
use Rattle.kmip_response.specs.declared.payload.ResponsePayload.TheVariants.{Create, CreateKeyPair, Register, Locate, Get, GetAttributes, GetAttributeList, AddAttribute, ModifyAttribute, DeleteAttribute, Activate, Revoke, Destroy, Query, DiscoverVersions, Sign, RNGRetrieve}
use Rattle.kmip_response.specs.declared.batch_item.BatchItem.{BatchItem}
use Rattle.kmip_response.specs.declared.message.ResponseMessage.{ResponseMessage}

abbrev pub protocol_version_val : ProtocolVersion → Val
protocol_version_val x = Record
    (AndField (One (Number x.major))
    (AndField (One (Number x.minor))
    NoField))

abbrev pub response_header_val : ResponseHeader → Val
response_header_val x = Record
    (AndField (One (protocol_version_val x.protocol_version))
    (AndField (One (date_val x.timestamp))
    (AndField (One (Number x.batch_count))
    NoField)))

abbrev pub message_extension_val : MessageExtension → Val
message_extension_val x = Record
    (AndField (One (Text x.vendor_identification))
    (AndField (One (Truth x.criticality_indicator))
    NoField))

abbrev pub create_payload_val : CreateResponsePayload → Val
create_payload_val x = Record
    (AndField (One (object_type_val x.object_type))
    (AndField (One (unique_identifier_val x.unique_identifier))
    (AndField (optional_list attribute_val x.object_attributes)
    NoField)))

abbrev pub create_key_pair_payload_val : CreateKeyPairResponsePayload → Val
create_key_pair_payload_val x = Record
    (AndField (One (unique_identifier_val x.private_key_unique_identifier))
    (AndField (One (unique_identifier_val x.public_key_unique_identifier))
    NoField))

abbrev pub register_payload_val : RegisterResponsePayload → Val
register_payload_val x = Record
    (AndField (One (unique_identifier_val x.unique_identifier))
    (AndField (optional_list template_attribute_val x.template_attributes)
    NoField))

abbrev pub locate_payload_val : LocateResponsePayload → Val
locate_payload_val x = Record
    (AndField (Many (vals unique_identifier_val x.unique_identifiers))
    NoField)

abbrev pub get_payload_val : GetResponsePayload → Val
get_payload_val x = Record
    (AndField (One (object_type_val x.object_type))
    (AndField (One (unique_identifier_val x.unique_identifier))
    (AndField (One (managed_object_val x.cryptographic_object))
    NoField)))

abbrev pub get_attributes_payload_val : GetAttributesResponsePayload → Val
get_attributes_payload_val x = Record
    (AndField (One (unique_identifier_val x.unique_identifier))
    (AndField (optional_list attribute_val x.attributes)
    NoField))

abbrev pub get_attribute_list_payload_val : GetAttributeListResponsePayload → Val
get_attribute_list_payload_val x = Record
    (AndField (One (unique_identifier_val x.unique_identifier))
    (AndField (Many (vals attribute_name_val x.attributes))
    NoField))

abbrev pub attribute_edit_payload_val : AttributeEditResponsePayload → Val
attribute_edit_payload_val x = Record
    (AndField (One (unique_identifier_val x.unique_identifier))
    (AndField (One (attribute_val x.attribute))
    NoField))

abbrev pub unique_identifier_payload_val : UniqueIdentifierResponsePayload → Val
unique_identifier_payload_val x = Record
    (AndField (One (unique_identifier_val x.unique_identifier))
    NoField)

abbrev pub query_payload_val : QueryResponsePayload → Val
query_payload_val x = Record
    (AndField (optional_list operation_val x.operations)
    (AndField (optional_list object_type_val x.object_types)
    (AndField (optional Text x.vendor_identification)
    NoField)))

abbrev pub discover_versions_payload_val : DiscoverVersionsResponsePayload → Val
discover_versions_payload_val x = Record
    (AndField (optional_list protocol_version_val x.supported_versions)
    NoField)

abbrev pub sign_payload_val : SignResponsePayload → Val
sign_payload_val x = Record
    (AndField (One (unique_identifier_val x.unique_identifier))
    (AndField (One (Bytes x.signature_data))
    NoField))

abbrev pub rng_retrieve_payload_val : RNGRetrieveResponsePayload → Val
rng_retrieve_payload_val x = Record
    (AndField (One (Bytes x.random_bytes))
    NoField)

-- a payload is the case with the number of its operation
abbrev pub response_payload_val : ResponsePayload → Val
response_payload_val (Create x) = Case 1 (create_payload_val x)
response_payload_val (CreateKeyPair x) = Case 2 (create_key_pair_payload_val x)
response_payload_val (Register x) = Case 3 (register_payload_val x)
response_payload_val (Locate x) = Case 8 (locate_payload_val x)
response_payload_val (Get x) = Case 10 (get_payload_val x)
response_payload_val (GetAttributes x) = Case 11 (get_attributes_payload_val x)
response_payload_val (GetAttributeList x) = Case 12 (get_attribute_list_payload_val x)
response_payload_val (AddAttribute x) = Case 13 (attribute_edit_payload_val x)
response_payload_val (ModifyAttribute x) = Case 14 (attribute_edit_payload_val x)
response_payload_val (DeleteAttribute x) = Case 15 (attribute_edit_payload_val x)
response_payload_val (Activate x) = Case 18 (unique_identifier_payload_val x)
response_payload_val (Revoke x) = Case 19 (unique_identifier_payload_val x)
response_payload_val (Destroy x) = Case 20 (unique_identifier_payload_val x)
response_payload_val (Query x) = Case 24 (query_payload_val x)
response_payload_val (DiscoverVersions x) = Case 30 (discover_versions_payload_val x)
response_payload_val (Sign x) = Case 33 (sign_payload_val x)
response_payload_val (RNGRetrieve x) = Case 37 (rng_retrieve_payload_val x)

abbrev pub batch_item_val : BatchItem → Val
batch_item_val x = Record
    (AndField (optional operation_val x.operation)
    (AndField (optional unique_batch_item_id_val x.unique_batch_item_id)
    (AndField (One (result_status_val x.result_status))
    (AndField (optional result_reason_val x.result_reason)
    (AndField (optional Text x.result_message)
    (AndField (optional response_payload_val x.payload)
    (AndField (optional message_extension_val x.message_extension)
    NoField)))))))

abbrev pub response_message_val : ResponseMessage → Val
response_message_val x = Record
    (AndField (One (response_header_val x.header))
    (AndField (Many (vals batch_item_val x.batch_items))
    NoField))
