use Rattle.kmip_enums.specs.ObjectTypes.{object_type_same}
use Rattle.kmip_enums.specs.QueryFunctions.{query_function_same}
use Rattle.kmip_request.specs.Same.{protocol_version_same, request_payload_same}
use Rattle.kmip_request_objects.specs.Same.{attribute_same, common_template_attribute_same, key_wrapping_specification_same, managed_object_same, private_key_template_attribute_same, public_key_template_attribute_same, revocation_reason_same, template_attribute_same}
use Rattle.kmip_types.specs.AttributeNames.{attribute_name_same}
use Rattle.kmip_types.specs.ByteStrings.{data_same}
use Rattle.kmip_types.specs.KeyCompressionTypes.{key_compression_type_same}
use Rattle.kmip_types.specs.KeyFormatTypes.{key_format_type_same}
use Rattle.kmip_types.specs.Numbers.{attribute_index_same, compromise_occurrence_date_same, data_length_same}
use Rattle.kmip_types.specs.Parameters.{cryptographic_parameters_same}
use Rattle.kmip_types.specs.Texts.{unique_identifier_same}
use Rattle.std.proofs.Common.{◌≡◌, true}
use Rattle.kmip_request.specs.declared.payload.RequestPayload.{RequestPayload}
use Rattle.kmip_request.specs.declared.payload.RequestPayload.TheVariants.{Create, CreateKeyPair, Register, Locate, Get, GetAttributes, GetAttributeList, AddAttribute, ModifyAttribute, DeleteAttribute, Activate, Revoke, Destroy, Query, DiscoverVersions, Sign, RNGRetrieve}
use Rattle.kmip_request.specs.contracts.payload.RequestPayloadEq.TheImpl.Laws.{laws-law}
use Rattle.kmip_request.specs.contracts.payload.RequestPayloadPartialEq.TheImpl as equality
use Rattle.kmip_equality.proofs.Rows.{table, one_of, optional_of, list_of, optional_list_of, by_cases, passed}
use Rattle.kmip_equality.proofs.requests.request_payloads.Goals as goal

pub returns : goal.returns
returns c = by_cases go laws-law
  where
    go : (x y : RequestPayload) → equality.ghosts.eq x y ≡ true → x ≡ y
    go (Create x0 x1) (Create y0 y1) h = request_payload_same (Create x0 x1) (Create y0 y1)
        (passed h (search (
          table,
          one_of object_type_same c.code_values.ensures.object_type,
          one_of template_attribute_same c.request_values.ensures.template_attribute,
        ) depth 16))
    go (CreateKeyPair x0 x1 x2) (CreateKeyPair y0 y1 y2) h =
        request_payload_same (CreateKeyPair x0 x1 x2) (CreateKeyPair y0 y1 y2)
        (passed h (search (
          table,
          optional_of common_template_attribute_same c.request_values.ensures.common_template_attribute,
          optional_of private_key_template_attribute_same c.request_values.ensures.private_key_template_attribute,
          optional_of public_key_template_attribute_same c.request_values.ensures.public_key_template_attribute,
        ) depth 16))
    go (Register x0 x1 x2) (Register y0 y1 y2) h = request_payload_same (Register x0 x1 x2) (Register y0 y1 y2)
        (passed h (search (
          table,
          one_of object_type_same c.code_values.ensures.object_type,
          one_of template_attribute_same c.request_values.ensures.template_attribute,
          optional_of managed_object_same c.request_values.ensures.managed_object,
        ) depth 16))
    go (Locate x0) (Locate y0) h = request_payload_same (Locate x0) (Locate y0)
        (passed h (search (table, list_of attribute_same c.request_values.ensures.attribute) depth 16))
    go (Get x0 x1 x2 x3) (Get y0 y1 y2 y3) h = request_payload_same (Get x0 x1 x2 x3) (Get y0 y1 y2 y3)
        (passed h (search (
          table,
          optional_of unique_identifier_same c.field_values.ensures.unique_identifier,
          optional_of key_format_type_same c.code_values.ensures.key_format_type,
          optional_of key_compression_type_same c.code_values.ensures.key_compression_type,
          optional_of key_wrapping_specification_same c.request_values.ensures.key_wrapping_specification,
        ) depth 16))
    go (GetAttributes x0 x1) (GetAttributes y0 y1) h =
        request_payload_same (GetAttributes x0 x1) (GetAttributes y0 y1)
        (passed h (search (
          table,
          optional_of unique_identifier_same c.field_values.ensures.unique_identifier,
          optional_list_of attribute_name_same c.field_values.ensures.attribute_name,
        ) depth 16))
    go (GetAttributeList x0) (GetAttributeList y0) h =
        request_payload_same (GetAttributeList x0) (GetAttributeList y0)
        (passed h (search (
          table,
          optional_of unique_identifier_same c.field_values.ensures.unique_identifier,
        ) depth 16))
    go (AddAttribute x0 x1) (AddAttribute y0 y1) h =
        request_payload_same (AddAttribute x0 x1) (AddAttribute y0 y1)
        (passed h (search (
          table,
          optional_of unique_identifier_same c.field_values.ensures.unique_identifier,
          one_of attribute_same c.request_values.ensures.attribute,
        ) depth 16))
    go (ModifyAttribute x0 x1) (ModifyAttribute y0 y1) h =
        request_payload_same (ModifyAttribute x0 x1) (ModifyAttribute y0 y1)
        (passed h (search (
          table,
          optional_of unique_identifier_same c.field_values.ensures.unique_identifier,
          one_of attribute_same c.request_values.ensures.attribute,
        ) depth 16))
    go (DeleteAttribute x0 x1 x2) (DeleteAttribute y0 y1 y2) h =
        request_payload_same (DeleteAttribute x0 x1 x2) (DeleteAttribute y0 y1 y2)
        (passed h (search (
          table,
          optional_of unique_identifier_same c.field_values.ensures.unique_identifier,
          one_of attribute_name_same c.field_values.ensures.attribute_name,
          optional_of attribute_index_same c.field_values.ensures.attribute_index,
        ) depth 16))
    go (Activate x0) (Activate y0) h = request_payload_same (Activate x0) (Activate y0)
        (passed h (search (
          table,
          optional_of unique_identifier_same c.field_values.ensures.unique_identifier,
        ) depth 16))
    go (Revoke x0 x1 x2) (Revoke y0 y1 y2) h = request_payload_same (Revoke x0 x1 x2) (Revoke y0 y1 y2)
        (passed h (search (
          table,
          optional_of unique_identifier_same c.field_values.ensures.unique_identifier,
          one_of revocation_reason_same c.request_values.ensures.revocation_reason,
          optional_of compromise_occurrence_date_same c.field_values.ensures.compromise_occurrence_date,
        ) depth 16))
    go (Destroy x0) (Destroy y0) h = request_payload_same (Destroy x0) (Destroy y0)
        (passed h (search (
          table,
          optional_of unique_identifier_same c.field_values.ensures.unique_identifier,
        ) depth 16))
    go (Query x0) (Query y0) h = request_payload_same (Query x0) (Query y0)
        (passed h (search (table, list_of query_function_same c.code_values.ensures.query_function) depth 16))
    go (DiscoverVersions x0) (DiscoverVersions y0) h =
        request_payload_same (DiscoverVersions x0) (DiscoverVersions y0)
        (passed h (search (table, list_of protocol_version_same c.request_values.ensures.protocol_version) depth 16))
    go (Sign x0 x1 x2) (Sign y0 y1 y2) h = request_payload_same (Sign x0 x1 x2) (Sign y0 y1 y2)
        (passed h (search (
          table,
          optional_of unique_identifier_same c.field_values.ensures.unique_identifier,
          optional_of cryptographic_parameters_same c.key_values.ensures.cryptographic_parameters,
          one_of data_same c.field_values.ensures.data,
        ) depth 16))
    go (RNGRetrieve x0) (RNGRetrieve y0) h = request_payload_same (RNGRetrieve x0) (RNGRetrieve y0)
        (passed h (search (table, one_of data_length_same c.field_values.ensures.data_length) depth 16))
    go _ _ h = cc
