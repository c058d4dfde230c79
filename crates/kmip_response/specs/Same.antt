-- Typed values with equal `Val`s are equal.
use Rattle.std.specs.Prelude.{ℕ, ℤ, Bool, List, Option, Some, None, ◌≡◌}
use Rattle.std.proofs.Common.{ap}
use Rattle.kmip_shape.specs.Val.{Number, Text, Bytes, Truth}
use Rattle.kmip_shape.specs.Dates.{date_same}
use Rattle.kmip_shape.specs.Same.{IsFaithful, same_record, same_number, same_text, same_bytes, same_truth, same_case, one_row, optional_row, list_row, optional_list_row, and_row, no_row}
use Rattle.kmip_types.specs.ByteStrings.{unique_batch_item_id_same}
use Rattle.kmip_types.specs.TheUniqueBatchItemID.{UniqueBatchItemID}
use Rattle.kmip_enums.specs.Operations.{operation_same}
use Rattle.kmip_enums.specs.ResultStatuses.{result_status_same}
use Rattle.kmip_enums.specs.ResultReasons.{result_reason_same}
use Rattle.kmip_enums.specs.declared.operation.Operation.{Operation}
use Rattle.kmip_enums.specs.declared.result_status.ResultStatus.{ResultStatus}
use Rattle.kmip_enums.specs.declared.result_reason.ResultReason.{ResultReason}
use Rattle.kmip_enums.specs.ObjectTypes.{object_type_same}
use Rattle.kmip_types.specs.Texts.{unique_identifier_same}
use Rattle.kmip_response_objects.specs.Same.{attribute_same, template_attribute_same, managed_object_same}
use Rattle.kmip_types.specs.AttributeNames.{attribute_name_same}
use Rattle.kmip_enums.specs.declared.object_type.ObjectType.{ObjectType}
use Rattle.kmip_types.specs.TheUniqueIdentifier.{UniqueIdentifier}
use Rattle.kmip_response_objects.specs.declared.attribute.Attribute.{Attribute}
use Rattle.kmip_response_objects.specs.declared.template_attribute.TemplateAttribute.{TemplateAttribute}
use Rattle.kmip_response_objects.specs.declared.managed_object.ManagedObject.{ManagedObject}
use Rattle.kmip_types.specs.TheAttributeName.{AttributeName}
use Rattle.kmip_response.specs.Values.{protocol_version_val, response_header_val, message_extension_val, batch_item_val, response_message_val, create_payload_val, create_key_pair_payload_val, register_payload_val, locate_payload_val, get_payload_val, get_attributes_payload_val, get_attribute_list_payload_val, attribute_edit_payload_val, unique_identifier_payload_val, query_payload_val, discover_versions_payload_val, sign_payload_val, rng_retrieve_payload_val, response_payload_val}
use Rattle.kmip_response.specs.Skipped.{IsSkipped}
use Rattle.kmip_response.specs.declared.payloads.identifiers.CreateResponsePayload.{CreateResponsePayload}
use Rattle.kmip_response.specs.declared.payloads.identifiers.CreateKeyPairResponsePayload.{CreateKeyPairResponsePayload}
use Rattle.kmip_response.specs.declared.payloads.identifiers.RegisterResponsePayload.{RegisterResponsePayload}
use Rattle.kmip_response.specs.declared.payloads.identifiers.LocateResponsePayload.{LocateResponsePayload}
use Rattle.kmip_response.specs.declared.payloads.get.GetResponsePayload.{GetResponsePayload}
use Rattle.kmip_response.specs.declared.payloads.attributes.GetAttributesResponsePayload.{GetAttributesResponsePayload}
use Rattle.kmip_response.specs.declared.payloads.attributes.GetAttributeListResponsePayload.{GetAttributeListResponsePayload}
use Rattle.kmip_response.specs.declared.payloads.attributes.AttributeEditResponsePayload.{AttributeEditResponsePayload}
use Rattle.kmip_response.specs.declared.payloads.identifiers.UniqueIdentifierResponsePayload.{UniqueIdentifierResponsePayload}
use Rattle.kmip_response.specs.declared.payloads.query.QueryResponsePayload.{QueryResponsePayload}
use Rattle.kmip_response.specs.declared.payloads.server.DiscoverVersionsResponsePayload.{DiscoverVersionsResponsePayload}
use Rattle.kmip_response.specs.declared.payloads.cryptography.SignResponsePayload.{SignResponsePayload}
use Rattle.kmip_response.specs.declared.payloads.cryptography.RNGRetrieveResponsePayload.{RNGRetrieveResponsePayload}
use Rattle.kmip_response.specs.declared.header.ProtocolVersion.{ProtocolVersion}
use Rattle.kmip_response.specs.declared.header.ResponseHeader.{ResponseHeader}
use Rattle.kmip_response.specs.declared.extension.MessageExtension.{MessageExtension}
use Rattle.kmip_response.specs.declared.payload.ResponsePayload.{ResponsePayload}
use Rattle.kmip_response.specs.declared.payload.ResponsePayload.TheVariants.{Create, CreateKeyPair, Register, Locate, Get, GetAttributes, GetAttributeList, AddAttribute, ModifyAttribute, DeleteAttribute, Activate, Revoke, Destroy, Query, DiscoverVersions, Sign, RNGRetrieve}
use Rattle.kmip_response.specs.declared.batch_item.BatchItem.{BatchItem}
use Rattle.kmip_response.specs.declared.message.ResponseMessage.{ResponseMessage}
use Rattle.kmip_response.specs.declared.payloads.query.ServerInformation.{ServerInformation}

number : IsFaithful Number
number x y h = same_number h

text : IsFaithful Text
text x y h = same_text h

bytes : IsFaithful Bytes
bytes x y h = same_bytes h

truth : IsFaithful Truth
truth x y h = same_truth h

abbrev version : ℤ × (ℤ × Unit {0}) → ProtocolVersion
version t = record { major = t.0; minor = (t.1).0 }

pub protocol_version_same : IsFaithful protocol_version_val
protocol_version_same x y h =
    ap version (and_row (one_row number) (and_row (one_row number) no_row)
    (x.major, (x.minor, tt)) (y.major, (y.minor, tt)) (same_record h))

abbrev header : ProtocolVersion × (ℤ × (ℤ × Unit {0})) → ResponseHeader
header t = record { protocol_version = t.0; timestamp = (t.1).0; batch_count = ((t.1).1).0 }

pub response_header_same : IsFaithful response_header_val
response_header_same x y h =
    ap header (and_row (one_row protocol_version_same)
    (and_row (one_row date_same) (and_row (one_row number) no_row))
    (x.protocol_version, (x.timestamp, (x.batch_count, tt)))
    (y.protocol_version, (y.timestamp, (y.batch_count, tt))) (same_record h))

abbrev extension : List ℕ × (Bool × Unit {0}) → MessageExtension
extension t = record {
  vendor_identification = t.0;
  criticality_indicator = (t.1).0;
  vendor_extension = record {};
}

pub message_extension_same : IsFaithful message_extension_val
message_extension_same x y h =
    ap extension (and_row (one_row text) (and_row (one_row truth) no_row)
    (x.vendor_identification, (x.criticality_indicator, tt))
    (y.vendor_identification, (y.criticality_indicator, tt)) (same_record h))

abbrev whole_create_payload : ObjectType ×
    (UniqueIdentifier × (Option (List Attribute) × Unit {0})) → CreateResponsePayload
whole_create_payload t =
    record { object_type = t.0; unique_identifier = (t.1).0; object_attributes = ((t.1).1).0 }

pub create_payload_same : IsFaithful create_payload_val
create_payload_same x y h =
    ap whole_create_payload
    (and_row (one_row object_type_same)
    (and_row (one_row unique_identifier_same)
    (and_row (optional_list_row attribute_same) no_row))
    (x.object_type, (x.unique_identifier, (x.object_attributes, tt)))
    (y.object_type, (y.unique_identifier, (y.object_attributes, tt))) (same_record h))

abbrev whole_create_key_pair_payload : UniqueIdentifier × (UniqueIdentifier × Unit {0}) →
    CreateKeyPairResponsePayload
whole_create_key_pair_payload t =
    record { private_key_unique_identifier = t.0; public_key_unique_identifier = (t.1).0 }

pub create_key_pair_payload_same : IsFaithful create_key_pair_payload_val
create_key_pair_payload_same x y h =
    ap whole_create_key_pair_payload
    (and_row (one_row unique_identifier_same) (and_row (one_row unique_identifier_same) no_row)
    (x.private_key_unique_identifier, (x.public_key_unique_identifier, tt))
    (y.private_key_unique_identifier, (y.public_key_unique_identifier, tt)) (same_record h))

abbrev whole_register_payload : UniqueIdentifier × (Option (List TemplateAttribute) × Unit {0}) →
    RegisterResponsePayload
whole_register_payload t = record { unique_identifier = t.0; template_attributes = (t.1).0 }

pub register_payload_same : IsFaithful register_payload_val
register_payload_same x y h =
    ap whole_register_payload
    (and_row (one_row unique_identifier_same)
    (and_row (optional_list_row template_attribute_same) no_row)
    (x.unique_identifier, (x.template_attributes, tt))
    (y.unique_identifier, (y.template_attributes, tt)) (same_record h))

abbrev whole_locate_payload : List UniqueIdentifier × Unit {0} → LocateResponsePayload
whole_locate_payload t = record { unique_identifiers = t.0 }

pub locate_payload_same : IsFaithful locate_payload_val
locate_payload_same x y h =
    ap whole_locate_payload (and_row (list_row unique_identifier_same) no_row
    (x.unique_identifiers, tt) (y.unique_identifiers, tt) (same_record h))

abbrev whole_get_payload : ObjectType × (UniqueIdentifier × (ManagedObject × Unit {0})) →
    GetResponsePayload
whole_get_payload t =
    record { object_type = t.0; unique_identifier = (t.1).0; cryptographic_object = ((t.1).1).0 }

pub get_payload_same : IsFaithful get_payload_val
get_payload_same x y h =
    ap whole_get_payload (and_row (one_row object_type_same)
    (and_row (one_row unique_identifier_same) (and_row (one_row managed_object_same) no_row))
    (x.object_type, (x.unique_identifier, (x.cryptographic_object, tt)))
    (y.object_type, (y.unique_identifier, (y.cryptographic_object, tt))) (same_record h))

abbrev whole_get_attributes_payload : UniqueIdentifier × (Option (List Attribute) × Unit {0}) →
    GetAttributesResponsePayload
whole_get_attributes_payload t = record { unique_identifier = t.0; attributes = (t.1).0 }

pub get_attributes_payload_same : IsFaithful get_attributes_payload_val
get_attributes_payload_same x y h =
    ap whole_get_attributes_payload
    (and_row (one_row unique_identifier_same)
    (and_row (optional_list_row attribute_same) no_row)
    (x.unique_identifier, (x.attributes, tt)) (y.unique_identifier, (y.attributes, tt))
    (same_record h))

abbrev whole_get_attribute_list_payload : UniqueIdentifier × (List AttributeName × Unit {0}) →
    GetAttributeListResponsePayload
whole_get_attribute_list_payload t = record { unique_identifier = t.0; attributes = (t.1).0 }

pub get_attribute_list_payload_same : IsFaithful get_attribute_list_payload_val
get_attribute_list_payload_same x y h =
    ap whole_get_attribute_list_payload
    (and_row (one_row unique_identifier_same) (and_row (list_row attribute_name_same) no_row)
    (x.unique_identifier, (x.attributes, tt)) (y.unique_identifier, (y.attributes, tt))
    (same_record h))

abbrev whole_attribute_edit_payload : UniqueIdentifier × (Attribute × Unit {0}) →
    AttributeEditResponsePayload
whole_attribute_edit_payload t = record { unique_identifier = t.0; attribute = (t.1).0 }

pub attribute_edit_payload_same : IsFaithful attribute_edit_payload_val
attribute_edit_payload_same x y h =
    ap whole_attribute_edit_payload
    (and_row (one_row unique_identifier_same) (and_row (one_row attribute_same) no_row)
    (x.unique_identifier, (x.attribute, tt)) (y.unique_identifier, (y.attribute, tt))
    (same_record h))

abbrev whole_unique_identifier_payload : UniqueIdentifier × Unit {0} →
    UniqueIdentifierResponsePayload
whole_unique_identifier_payload t = record { unique_identifier = t.0 }

pub unique_identifier_payload_same : IsFaithful unique_identifier_payload_val
unique_identifier_payload_same x y h =
    ap whole_unique_identifier_payload (and_row (one_row unique_identifier_same) no_row
    (x.unique_identifier, tt) (y.unique_identifier, tt) (same_record h))

abbrev whole_query_payload : Option (List Operation) ×
    (Option (List ObjectType) × (Option (List ℕ) × Unit {0})) →
    (server : Option ServerInformation) → IsSkipped server → QueryResponsePayload
whole_query_payload t server skipped =
    record {
      operations = t.0;
      object_types = (t.1).0;
      vendor_identification = ((t.1).1).0;
      server_information = server;
      skipped = skipped;
    }

-- payloads of Query that skip Server Information are equal where their other fields are
same_skipped : {t u : Option (List Operation) ×
    (Option (List ObjectType) × (Option (List ℕ) × Unit {0}))} → t ≡ u →
    (a b : Option ServerInformation) (p : IsSkipped a) (q : IsSkipped b) →
    whole_query_payload t a p ≡ whole_query_payload u b q
same_skipped h None None p q =
    ap (λ (t : Option (List Operation) × (Option (List ObjectType) × (Option (List ℕ) × Unit {0}))).
    whole_query_payload t None tt) h
same_skipped h None (Some b) p q = absurd q
same_skipped h (Some a) b p q = absurd p

pub query_payload_same : IsFaithful query_payload_val
query_payload_same x y h =
    same_skipped (and_row (optional_list_row operation_same)
    (and_row (optional_list_row object_type_same) (and_row (optional_row text) no_row))
    (x.operations, (x.object_types, (x.vendor_identification, tt)))
    (y.operations, (y.object_types, (y.vendor_identification, tt))) (same_record h))
    x.server_information y.server_information x.skipped y.skipped

abbrev whole_discover_versions_payload : Option (List ProtocolVersion) × Unit {0} →
    DiscoverVersionsResponsePayload
whole_discover_versions_payload t = record { supported_versions = t.0 }

pub discover_versions_payload_same : IsFaithful discover_versions_payload_val
discover_versions_payload_same x y h =
    ap whole_discover_versions_payload (and_row (optional_list_row protocol_version_same) no_row
    (x.supported_versions, tt) (y.supported_versions, tt) (same_record h))

abbrev whole_sign_payload : UniqueIdentifier × (List ℕ × Unit {0}) → SignResponsePayload
whole_sign_payload t = record { unique_identifier = t.0; signature_data = (t.1).0 }

pub sign_payload_same : IsFaithful sign_payload_val
sign_payload_same x y h =
    ap whole_sign_payload (and_row (one_row unique_identifier_same) (and_row (one_row bytes) no_row)
    (x.unique_identifier, (x.signature_data, tt)) (y.unique_identifier, (y.signature_data, tt))
    (same_record h))

abbrev whole_rng_retrieve_payload : List ℕ × Unit {0} → RNGRetrieveResponsePayload
whole_rng_retrieve_payload t = record { random_bytes = t.0 }

pub rng_retrieve_payload_same : IsFaithful rng_retrieve_payload_val
rng_retrieve_payload_same x y h =
    ap whole_rng_retrieve_payload (and_row (one_row bytes) no_row
    (x.random_bytes, tt) (y.random_bytes, tt) (same_record h))

pub response_payload_same : IsFaithful response_payload_val
response_payload_same (Create x) (Create y) h = ap Create (create_payload_same x y (same_case h).1)
response_payload_same (CreateKeyPair x) (CreateKeyPair y) h =
    ap CreateKeyPair (create_key_pair_payload_same x y (same_case h).1)
response_payload_same (Register x) (Register y) h =
    ap Register (register_payload_same x y (same_case h).1)
response_payload_same (Locate x) (Locate y) h = ap Locate (locate_payload_same x y (same_case h).1)
response_payload_same (Get x) (Get y) h = ap Get (get_payload_same x y (same_case h).1)
response_payload_same (GetAttributes x) (GetAttributes y) h =
    ap GetAttributes (get_attributes_payload_same x y (same_case h).1)
response_payload_same (GetAttributeList x) (GetAttributeList y) h =
    ap GetAttributeList (get_attribute_list_payload_same x y (same_case h).1)
response_payload_same (AddAttribute x) (AddAttribute y) h =
    ap AddAttribute (attribute_edit_payload_same x y (same_case h).1)
response_payload_same (ModifyAttribute x) (ModifyAttribute y) h =
    ap ModifyAttribute (attribute_edit_payload_same x y (same_case h).1)
response_payload_same (DeleteAttribute x) (DeleteAttribute y) h =
    ap DeleteAttribute (attribute_edit_payload_same x y (same_case h).1)
response_payload_same (Activate x) (Activate y) h =
    ap Activate (unique_identifier_payload_same x y (same_case h).1)
response_payload_same (Revoke x) (Revoke y) h =
    ap Revoke (unique_identifier_payload_same x y (same_case h).1)
response_payload_same (Destroy x) (Destroy y) h =
    ap Destroy (unique_identifier_payload_same x y (same_case h).1)
response_payload_same (Query x) (Query y) h = ap Query (query_payload_same x y (same_case h).1)
response_payload_same (DiscoverVersions x) (DiscoverVersions y) h =
    ap DiscoverVersions (discover_versions_payload_same x y (same_case h).1)
response_payload_same (Sign x) (Sign y) h = ap Sign (sign_payload_same x y (same_case h).1)
response_payload_same (RNGRetrieve x) (RNGRetrieve y) h =
    ap RNGRetrieve (rng_retrieve_payload_same x y (same_case h).1)
response_payload_same _ _ h = cc

abbrev item : Option Operation ×
    (Option UniqueBatchItemID ×
    (ResultStatus × (Option ResultReason ×
    (Option (List ℕ) × (Option ResponsePayload × (Option MessageExtension × Unit {0})))))) →
    BatchItem
item t = record {
  operation = t.0;
  unique_batch_item_id = (t.1).0;
  result_status = ((t.1).1).0;
  result_reason = (((t.1).1).1).0;
  result_message = ((((t.1).1).1).1).0;
  payload =
      (((((t.1).1).1).1).1).0;
  message_extension = ((((((t.1).1).1).1).1).1).0;
}

pub batch_item_same : IsFaithful batch_item_val
batch_item_same x y h =
    ap item (and_row (optional_row operation_same)
    (and_row (optional_row unique_batch_item_id_same) (and_row (one_row result_status_same)
    (and_row (optional_row result_reason_same)
    (and_row (optional_row text)
    (and_row (optional_row response_payload_same)
    (and_row (optional_row message_extension_same) no_row)))))) (
      x.operation,
      (
        x.unique_batch_item_id,
        (
          x.result_status,
          (
            x.result_reason,
            (x.result_message, (x.payload, (x.message_extension, tt))),
          ),
        ),
      ),
    ) (
      y.operation,
      (
        y.unique_batch_item_id,
        (
          y.result_status,
          (
            y.result_reason,
            (y.result_message, (y.payload, (y.message_extension, tt))),
          ),
        ),
      ),
    ) (same_record h))

abbrev message : ResponseHeader × (List BatchItem × Unit {0}) → ResponseMessage
message t = record { header = t.0; batch_items = (t.1).0 }

pub response_message_same : IsFaithful response_message_val
response_message_same x y h =
    ap message (and_row (one_row response_header_same) (and_row (list_row batch_item_same) no_row)
    (x.header, (x.batch_items, tt)) (y.header, (y.batch_items, tt)) (same_record h))
