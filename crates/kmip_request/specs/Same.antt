-- Typed values of the same meaning are equal.
use Rattle.std.specs.Prelude.{ℕ, ℤ, List, Option, ◌≡◌}
use Rattle.std.proofs.Common.{ap}
use Rattle.kmip_shape.specs.Same.{IsFaithful, same_record, same_number, same_text, same_case, one_row, optional_row, list_row, optional_list_row, and_row, no_row}
use Rattle.kmip_types.specs.Texts.{unique_identifier_same}
use Rattle.kmip_types.specs.AttributeNames.{attribute_name_same}
use Rattle.kmip_types.specs.Numbers.{attribute_index_same, compromise_occurrence_date_same, data_length_same}
use Rattle.kmip_types.specs.Parameters.{cryptographic_parameters_same}
use Rattle.kmip_types.specs.KeyFormatTypes.{key_format_type_same}
use Rattle.kmip_types.specs.KeyCompressionTypes.{key_compression_type_same}
use Rattle.kmip_enums.specs.ObjectTypes.{object_type_same}
use Rattle.kmip_enums.specs.QueryFunctions.{query_function_same}
use Rattle.kmip_types.specs.ByteStrings.{data_same, unique_batch_item_id_same}
use Rattle.kmip_types.specs.TheUniqueBatchItemID.{UniqueBatchItemID}
use Rattle.kmip_enums.specs.Operations.{operation_same}
use Rattle.kmip_enums.specs.declared.operation.Operation.{Operation}
use Rattle.kmip_enums.specs.CredentialTypes.{credential_type_same}
use Rattle.kmip_enums.specs.declared.credential_type.CredentialType.{CredentialType}
use Rattle.kmip_request.specs.Values.{major_val, minor_val, size_val, count_val, username_val, password_val, protocol_version_val, credential_value_val, credential_val, authentication_val, request_header_val, batch_item_val, request_message_val, request_payload_val}
use Rattle.kmip_types.specs.TheAttributeName.{AttributeName}
use Rattle.kmip_types.specs.TheAttributeIndex.{AttributeIndex}
use Rattle.kmip_request_objects.specs.declared.attribute.Attribute.{Attribute}
use Rattle.kmip_types.specs.TheUniqueIdentifier.{UniqueIdentifier}
use Rattle.kmip_types.specs.declared.cryptographic_parameters.CryptographicParameters.{CryptographicParameters}
use Rattle.kmip_types.specs.TheKeyFormatType.{KeyFormatType}
use Rattle.kmip_types.specs.TheKeyCompressionType.{KeyCompressionType}
use Rattle.kmip_enums.specs.declared.object_type.ObjectType.{ObjectType}
use Rattle.kmip_request_objects.specs.declared.template_attribute.TemplateAttribute.{TemplateAttribute}
use Rattle.kmip_request_objects.specs.declared.template_attribute.CommonTemplateAttribute.{CommonTemplateAttribute}
use Rattle.kmip_request_objects.specs.declared.template_attribute.PrivateKeyTemplateAttribute.{PrivateKeyTemplateAttribute}
use Rattle.kmip_request_objects.specs.declared.template_attribute.PublicKeyTemplateAttribute.{PublicKeyTemplateAttribute}
use Rattle.kmip_request_objects.specs.declared.key_wrapping.KeyWrappingSpecification.{KeyWrappingSpecification}
use Rattle.kmip_request_objects.specs.declared.revocation_reason.RevocationReason.{RevocationReason}
use Rattle.kmip_types.specs.TheCompromiseOccurrenceDate.{CompromiseOccurrenceDate}
use Rattle.kmip_enums.specs.declared.query_function.QueryFunction.{QueryFunction}
use Rattle.kmip_request.specs.declared.header.ProtocolVersion.{ProtocolVersion}
use Rattle.kmip_types.specs.TheData.{Data}
use Rattle.kmip_types.specs.TheDataLength.{DataLength}
use Rattle.kmip_request.specs.declared.numbers.ProtocolVersionMajor.{ProtocolVersionMajor}
use Rattle.kmip_request.specs.declared.numbers.ProtocolVersionMinor.{ProtocolVersionMinor}
use Rattle.kmip_request.specs.declared.numbers.MaximumResponseSize.{MaximumResponseSize}
use Rattle.kmip_request.specs.declared.numbers.BatchCount.{BatchCount}
use Rattle.kmip_request.specs.declared.authentication.Username.{Username}
use Rattle.kmip_request.specs.declared.authentication.Password.{Password}
use Rattle.kmip_request.specs.declared.authentication.CredentialValue.{CredentialValue}
use Rattle.kmip_request.specs.declared.authentication.CredentialValue.TheVariants.{UsernameAndPassword}
use Rattle.kmip_request.specs.declared.authentication.Credential.{Credential}
use Rattle.kmip_request.specs.declared.authentication.Authentication.{Authentication}
use Rattle.kmip_request.specs.declared.header.RequestHeader.{RequestHeader}
use Rattle.kmip_request.specs.declared.message.BatchItem.{BatchItem}
use Rattle.kmip_request.specs.declared.message.RequestMessage.{RequestMessage}
use Rattle.kmip_request.specs.declared.payload.RequestPayload.{RequestPayload}
use Rattle.kmip_request.specs.declared.payload.RequestPayload.TheVariants.{Create, CreateKeyPair, Register, Locate, Get, GetAttributes, GetAttributeList, AddAttribute, ModifyAttribute, DeleteAttribute, Activate, Revoke, Destroy, Query, DiscoverVersions, Sign, RNGRetrieve}
use Rattle.kmip_request_objects.specs.declared.managed_object.ManagedObject.{ManagedObject}
use Rattle.kmip_request_objects.specs.Same.{attribute_same, template_attribute_same, common_template_attribute_same, private_key_template_attribute_same, public_key_template_attribute_same, key_wrapping_specification_same, managed_object_same, revocation_reason_same}

pub major_same : IsFaithful major_val
major_same x y h = let made : ℤ → ProtocolVersionMajor = λ value. record { 0 = value } in ap made (same_number h)

pub minor_same : IsFaithful minor_val
minor_same x y h = let made : ℤ → ProtocolVersionMinor = λ value. record { 0 = value } in ap made (same_number h)

pub size_same : IsFaithful size_val
size_same x y h = let made : ℤ → MaximumResponseSize = λ value. record { 0 = value } in ap made (same_number h)

pub count_same : IsFaithful count_val
count_same x y h = let made : ℤ → BatchCount = λ value. record { 0 = value } in ap made (same_number h)

pub username_same : IsFaithful username_val
username_same x y h = let made : List ℕ → Username = λ value. record { 0 = value } in ap made (same_text h)

pub password_same : IsFaithful password_val
password_same x y h = let made : List ℕ → Password = λ value. record { 0 = value } in ap made (same_text h)

abbrev version : ProtocolVersionMajor × (ProtocolVersionMinor × Unit {0}) → ProtocolVersion
version t = record { 0 = t.0; 1 = (t.1).0 }

pub protocol_version_same : IsFaithful protocol_version_val
protocol_version_same x y h =
    ap version (and_row (one_row major_same) (and_row (one_row minor_same) no_row)
    (x.0, (x.1, tt)) (y.0, (y.1, tt)) (same_record h))

abbrev password_credential : Username × (Option Password × Unit {0}) → CredentialValue
password_credential t = UsernameAndPassword t.0 (t.1).0

pub credential_value_same : IsFaithful credential_value_val
credential_value_same (UsernameAndPassword u p) (UsernameAndPassword v q) h =
    ap password_credential
    (and_row (one_row username_same) (and_row (optional_row password_same) no_row)
    (u, (p, tt)) (v, (q, tt)) (same_record (same_case h).1))

abbrev typed : CredentialType × (CredentialValue × Unit {0}) → Credential
typed t = record { 0 = t.0; 1 = (t.1).0 }

pub credential_same : IsFaithful credential_val
credential_same x y h =
    ap typed (and_row (one_row credential_type_same)
    (and_row (one_row credential_value_same) no_row)
    (x.0, (x.1, tt)) (y.0, (y.1, tt)) (same_record h))

abbrev authentication_of : Credential × Unit {0} → Authentication
authentication_of t = record { 0 = t.0 }

pub authentication_same : IsFaithful authentication_val
authentication_same x y h =
    ap authentication_of (and_row (one_row credential_same) no_row
    (x.0, tt) (y.0, tt) (same_record h))

abbrev header : ProtocolVersion ×
    (Option MaximumResponseSize × (Option Authentication × (BatchCount × Unit {0}))) → RequestHeader
header t = record { 0 = t.0; 1 = (t.1).0; 2 = ((t.1).1).0; 3 = (((t.1).1).1).0 }

pub request_header_same : IsFaithful request_header_val
request_header_same x y h =
    ap header (and_row (one_row protocol_version_same)
    (and_row (optional_row size_same)
    (and_row (optional_row authentication_same) (and_row (one_row count_same) no_row)))
    (x.0, (x.1, (x.2, (x.3, tt)))) (y.0, (y.1, (y.2, (y.3, tt)))) (same_record h))

abbrev made_create : ObjectType × (TemplateAttribute × Unit {0}) → RequestPayload
made_create t = Create t.0 (t.1).0

abbrev made_create_key_pair : Option CommonTemplateAttribute ×
    (Option PrivateKeyTemplateAttribute × (Option PublicKeyTemplateAttribute × Unit {0})) →
    RequestPayload
made_create_key_pair t = CreateKeyPair t.0 (t.1).0 ((t.1).1).0

abbrev made_register : ObjectType × (TemplateAttribute × (Option ManagedObject × Unit {0})) →
    RequestPayload
made_register t = Register t.0 (t.1).0 ((t.1).1).0

abbrev made_locate : List Attribute × Unit {0} → RequestPayload
made_locate t = Locate t.0

abbrev made_get : Option UniqueIdentifier ×
    (Option KeyFormatType ×
    (Option KeyCompressionType × (Option KeyWrappingSpecification × Unit {0}))) → RequestPayload
made_get t = Get t.0 (t.1).0 ((t.1).1).0 (((t.1).1).1).0

abbrev made_get_attributes : Option UniqueIdentifier × (Option (List AttributeName) × Unit {0}) →
    RequestPayload
made_get_attributes t = GetAttributes t.0 (t.1).0

abbrev made_get_attribute_list : Option UniqueIdentifier × Unit {0} → RequestPayload
made_get_attribute_list t = GetAttributeList t.0

abbrev made_add_attribute : Option UniqueIdentifier × (Attribute × Unit {0}) → RequestPayload
made_add_attribute t = AddAttribute t.0 (t.1).0

abbrev made_modify_attribute : Option UniqueIdentifier × (Attribute × Unit {0}) → RequestPayload
made_modify_attribute t = ModifyAttribute t.0 (t.1).0

abbrev made_delete_attribute : Option UniqueIdentifier ×
    (AttributeName × (Option AttributeIndex × Unit {0})) → RequestPayload
made_delete_attribute t = DeleteAttribute t.0 (t.1).0 ((t.1).1).0

abbrev made_activate : Option UniqueIdentifier × Unit {0} → RequestPayload
made_activate t = Activate t.0

abbrev made_revoke : Option UniqueIdentifier ×
    (RevocationReason × (Option CompromiseOccurrenceDate × Unit {0})) → RequestPayload
made_revoke t = Revoke t.0 (t.1).0 ((t.1).1).0

abbrev made_destroy : Option UniqueIdentifier × Unit {0} → RequestPayload
made_destroy t = Destroy t.0

abbrev made_query : List QueryFunction × Unit {0} → RequestPayload
made_query t = Query t.0

abbrev made_discover_versions : List ProtocolVersion × Unit {0} → RequestPayload
made_discover_versions t = DiscoverVersions t.0

abbrev made_sign : Option UniqueIdentifier × (Option CryptographicParameters × (Data × Unit {0})) →
    RequestPayload
made_sign t = Sign t.0 (t.1).0 ((t.1).1).0

abbrev made_rng_retrieve : DataLength × Unit {0} → RequestPayload
made_rng_retrieve t = RNGRetrieve t.0

pub request_payload_same : IsFaithful request_payload_val
request_payload_same (Create x0 x1) (Create y0 y1) h =
    ap made_create (and_row (one_row object_type_same)
    (and_row (one_row template_attribute_same) no_row) (x0, (x1, tt)) (y0, (y1, tt))
    (same_record (same_case h).1))
request_payload_same (CreateKeyPair x0 x1 x2) (CreateKeyPair y0 y1 y2) h =
    ap made_create_key_pair
    (and_row (optional_row common_template_attribute_same)
    (and_row (optional_row private_key_template_attribute_same)
    (and_row (optional_row public_key_template_attribute_same) no_row)) (x0, (x1, (x2, tt)))
    (y0, (y1, (y2, tt))) (same_record (same_case h).1))
request_payload_same (Register x0 x1 x2) (Register y0 y1 y2) h =
    ap made_register (and_row (one_row object_type_same)
    (and_row (one_row template_attribute_same)
    (and_row (optional_row managed_object_same) no_row)) (x0, (x1, (x2, tt))) (y0, (y1, (y2, tt)))
    (same_record (same_case h).1))
request_payload_same (Locate x0) (Locate y0) h =
    ap made_locate (and_row (list_row attribute_same) no_row (x0, tt) (y0, tt)
    (same_record (same_case h).1))
request_payload_same (Get x0 x1 x2 x3) (Get y0 y1 y2 y3) h =
    ap made_get (and_row (optional_row unique_identifier_same)
    (and_row (optional_row key_format_type_same)
    (and_row (optional_row key_compression_type_same)
    (and_row (optional_row key_wrapping_specification_same) no_row))) (x0, (x1, (x2, (x3, tt))))
    (y0, (y1, (y2, (y3, tt)))) (same_record (same_case h).1))
request_payload_same (GetAttributes x0 x1) (GetAttributes y0 y1) h =
    ap made_get_attributes
    (and_row (optional_row unique_identifier_same)
    (and_row (optional_list_row attribute_name_same) no_row) (x0, (x1, tt)) (y0, (y1, tt))
    (same_record (same_case h).1))
request_payload_same (GetAttributeList x0) (GetAttributeList y0) h =
    ap made_get_attribute_list
    (and_row (optional_row unique_identifier_same) no_row (x0, tt) (y0, tt)
    (same_record (same_case h).1))
request_payload_same (AddAttribute x0 x1) (AddAttribute y0 y1) h =
    ap made_add_attribute
    (and_row (optional_row unique_identifier_same) (and_row (one_row attribute_same) no_row)
    (x0, (x1, tt)) (y0, (y1, tt)) (same_record (same_case h).1))
request_payload_same (ModifyAttribute x0 x1) (ModifyAttribute y0 y1) h =
    ap made_modify_attribute
    (and_row (optional_row unique_identifier_same) (and_row (one_row attribute_same) no_row)
    (x0, (x1, tt)) (y0, (y1, tt)) (same_record (same_case h).1))
request_payload_same (DeleteAttribute x0 x1 x2) (DeleteAttribute y0 y1 y2) h =
    ap made_delete_attribute
    (and_row (optional_row unique_identifier_same)
    (and_row (one_row attribute_name_same) (and_row (optional_row attribute_index_same) no_row))
    (x0, (x1, (x2, tt))) (y0, (y1, (y2, tt))) (same_record (same_case h).1))
request_payload_same (Activate x0) (Activate y0) h =
    ap made_activate (and_row (optional_row unique_identifier_same) no_row (x0, tt) (y0, tt)
    (same_record (same_case h).1))
request_payload_same (Revoke x0 x1 x2) (Revoke y0 y1 y2) h =
    ap made_revoke (and_row (optional_row unique_identifier_same)
    (and_row (one_row revocation_reason_same)
    (and_row (optional_row compromise_occurrence_date_same) no_row)) (x0, (x1, (x2, tt)))
    (y0, (y1, (y2, tt))) (same_record (same_case h).1))
request_payload_same (Destroy x0) (Destroy y0) h =
    ap made_destroy (and_row (optional_row unique_identifier_same) no_row (x0, tt) (y0, tt)
    (same_record (same_case h).1))
request_payload_same (Query x0) (Query y0) h =
    ap made_query (and_row (list_row query_function_same) no_row (x0, tt) (y0, tt)
    (same_record (same_case h).1))
request_payload_same (DiscoverVersions x0) (DiscoverVersions y0) h =
    ap made_discover_versions
    (and_row (list_row protocol_version_same) no_row (x0, tt) (y0, tt)
    (same_record (same_case h).1))
request_payload_same (Sign x0 x1 x2) (Sign y0 y1 y2) h =
    ap made_sign (and_row (optional_row unique_identifier_same)
    (and_row (optional_row cryptographic_parameters_same) (and_row (one_row data_same) no_row))
    (x0, (x1, (x2, tt))) (y0, (y1, (y2, tt))) (same_record (same_case h).1))
request_payload_same (RNGRetrieve x0) (RNGRetrieve y0) h =
    ap made_rng_retrieve (and_row (one_row data_length_same) no_row (x0, tt) (y0, tt)
    (same_record (same_case h).1))
request_payload_same _ _ h = cc

abbrev item : Operation × (Option UniqueBatchItemID × (RequestPayload × Unit {0})) → BatchItem
item t = record { 0 = t.0; 1 = (t.1).0; 2 = ((t.1).1).0 }

pub batch_item_same : IsFaithful batch_item_val
batch_item_same x y h =
    ap item (and_row (one_row operation_same)
    (and_row (optional_row unique_batch_item_id_same)
    (and_row (one_row request_payload_same) no_row))
    (x.0, (x.1, (x.2, tt))) (y.0, (y.1, (y.2, tt))) (same_record h))

abbrev message : RequestHeader × (List BatchItem × Unit {0}) → RequestMessage
message t = record { 0 = t.0; 1 = (t.1).0 }

pub request_message_same : IsFaithful request_message_val
request_message_same x y h =
    ap message (and_row (one_row request_header_same) (and_row (list_row batch_item_same) no_row)
    (x.0, (x.1, tt)) (y.0, (y.1, tt)) (same_record h))
