use Rattle.std.proofs.lemmas.Slice.Eq.{bytes_eq-Decides}
use Rattle.kmip_enums.specs.ObjectTypes.{object_type_same}
use Rattle.kmip_enums.specs.Operations.{operation_same}
use Rattle.kmip_response.specs.Same.{attribute_edit_payload_same, create_key_pair_payload_same, create_payload_same, discover_versions_payload_same, get_attribute_list_payload_same, get_attributes_payload_same, get_payload_same, locate_payload_same, protocol_version_same, query_payload_same, register_payload_same, rng_retrieve_payload_same, sign_payload_same, unique_identifier_payload_same}
use Rattle.kmip_response_objects.specs.Same.{attribute_same, managed_object_same, template_attribute_same}
use Rattle.kmip_types.specs.AttributeNames.{attribute_name_same}
use Rattle.kmip_types.specs.Texts.{unique_identifier_same}
use Rattle.std.proofs.Common.{◌≡◌, Bool, true, Option, Some, None, refl, ap}
use Rattle.std.specs.Option.{option_eq}
use Rattle.kmip_response.specs.Skipped.{IsSkipped}
use Rattle.kmip_response.specs.declared.payloads.query.ServerInformation.{ServerInformation}
use Rattle.kmip_response.specs.declared.payload.ResponsePayload.{ResponsePayload}
use Rattle.kmip_response.specs.declared.payload.ResponsePayload.TheVariants.{Create, CreateKeyPair, Register, Locate, Get, GetAttributes, GetAttributeList, AddAttribute, ModifyAttribute, DeleteAttribute, Activate, Revoke, Destroy, Query, DiscoverVersions, Sign, RNGRetrieve}
use Rattle.kmip_response.specs.contracts.payload.ResponsePayloadEq.TheImpl.Laws.{laws-law}
use Rattle.kmip_response.specs.contracts.payload.ResponsePayloadPartialEq.TheImpl as equality
use Rattle.kmip_equality.proofs.Rows.{table, and_row, last_row_and, record_of, one_of, optional_of, list_of, optional_list_of, by_value, by_cases, texts, byte_strings}
use Rattle.kmip_equality.proofs.responses.response_payloads.Goals as goal

pub returns-clause-create : goal.returns-clause-create
returns-clause-create c = by_value create_payload_same (λ x y. search (
  table,
  one_of object_type_same c.code_values.ensures.object_type,
  one_of unique_identifier_same c.field_values.ensures.unique_identifier,
  optional_list_of attribute_same c.response_values.ensures.attribute,
) depth 16)

pub returns-clause-create_key_pair : goal.returns-clause-create_key_pair
returns-clause-create_key_pair c = by_value create_key_pair_payload_same (λ x y. search (
  table,
  one_of unique_identifier_same c.field_values.ensures.unique_identifier,
) depth 16)

pub returns-clause-register : goal.returns-clause-register
returns-clause-register c = by_value register_payload_same (λ x y. search (
  table,
  one_of unique_identifier_same c.field_values.ensures.unique_identifier,
  optional_list_of template_attribute_same c.response_values.ensures.template_attribute,
) depth 16)

pub returns-clause-locate : goal.returns-clause-locate
returns-clause-locate c = by_value locate_payload_same (λ x y. search (
  table,
  list_of unique_identifier_same c.field_values.ensures.unique_identifier,
) depth 16)

pub returns-clause-get : goal.returns-clause-get
returns-clause-get c = by_value get_payload_same (λ x y. search (
  table,
  one_of object_type_same c.code_values.ensures.object_type,
  one_of unique_identifier_same c.field_values.ensures.unique_identifier,
  one_of managed_object_same c.response_values.ensures.managed_object,
) depth 16)

pub returns-clause-get_attributes : goal.returns-clause-get_attributes
returns-clause-get_attributes c = by_value get_attributes_payload_same (λ x y. search (
  table,
  one_of unique_identifier_same c.field_values.ensures.unique_identifier,
  optional_list_of attribute_same c.response_values.ensures.attribute,
) depth 16)

pub returns-clause-get_attribute_list : goal.returns-clause-get_attribute_list
returns-clause-get_attribute_list c = by_value get_attribute_list_payload_same (λ x y. search (
  table,
  one_of unique_identifier_same c.field_values.ensures.unique_identifier,
  list_of attribute_name_same c.field_values.ensures.attribute_name,
) depth 16)

pub returns-clause-attribute_edit : goal.returns-clause-attribute_edit
returns-clause-attribute_edit c = by_value attribute_edit_payload_same (λ x y. search (
  table,
  one_of unique_identifier_same c.field_values.ensures.unique_identifier,
  one_of attribute_same c.response_values.ensures.attribute,
) depth 16)

pub returns-clause-unique_identifier : goal.returns-clause-unique_identifier
returns-clause-unique_identifier c = by_value unique_identifier_payload_same (λ x y. search (
  table,
  one_of unique_identifier_same c.field_values.ensures.unique_identifier,
) depth 16)

-- Server Information is skipped in both
skipped : (E : ServerInformation → ServerInformation → Bool) (x y : Option ServerInformation)
    → IsSkipped x → IsSkipped y → option_eq E x y ≡ true
skipped E None None p q = refl
skipped E None (Some y) p q = absurd q
skipped E (Some x) y p q = absurd p

pub returns-clause-query : goal.returns-clause-query
returns-clause-query c = by_value query_payload_same (λ x y. record_of
    (and_row (optional_list_of operation_same c.code_values.ensures.operation x.operations y.operations)
    (and_row (optional_list_of object_type_same c.code_values.ensures.object_type x.object_types y.object_types)
    (last_row_and (optional_of texts bytes_eq-Decides x.vendor_identification y.vendor_identification)
    (skipped _ x.server_information y.server_information x.skipped y.skipped)))))

pub returns-clause-discover_versions : goal.returns-clause-discover_versions
returns-clause-discover_versions c = by_value discover_versions_payload_same (λ x y. search (
  table,
  optional_list_of protocol_version_same c.response_values.ensures.protocol_version,
) depth 16)

pub returns-clause-sign : goal.returns-clause-sign
returns-clause-sign c = by_value sign_payload_same (λ x y. search (
  table,
  one_of unique_identifier_same c.field_values.ensures.unique_identifier,
  one_of byte_strings bytes_eq-Decides,
) depth 16)

pub returns-clause-rng_retrieve : goal.returns-clause-rng_retrieve
returns-clause-rng_retrieve c =
    by_value rng_retrieve_payload_same (λ x y. search (table, one_of byte_strings bytes_eq-Decides) depth 16)

pub returns-clause-payload : goal.returns-clause-payload
returns-clause-payload c = by_cases go laws-law
  where
    go : (x y : ResponsePayload) → equality.ghosts.eq x y ≡ true → x ≡ y
    go (Create x) (Create y) h = ap Create ((returns-clause-create c x y).0 h)
    go (CreateKeyPair x) (CreateKeyPair y) h = ap CreateKeyPair ((returns-clause-create_key_pair c x y).0 h)
    go (Register x) (Register y) h = ap Register ((returns-clause-register c x y).0 h)
    go (Locate x) (Locate y) h = ap Locate ((returns-clause-locate c x y).0 h)
    go (Get x) (Get y) h = ap Get ((returns-clause-get c x y).0 h)
    go (GetAttributes x) (GetAttributes y) h = ap GetAttributes ((returns-clause-get_attributes c x y).0 h)
    go (GetAttributeList x) (GetAttributeList y) h =
        ap GetAttributeList ((returns-clause-get_attribute_list c x y).0 h)
    go (AddAttribute x) (AddAttribute y) h = ap AddAttribute ((returns-clause-attribute_edit c x y).0 h)
    go (ModifyAttribute x) (ModifyAttribute y) h = ap ModifyAttribute ((returns-clause-attribute_edit c x y).0 h)
    go (DeleteAttribute x) (DeleteAttribute y) h = ap DeleteAttribute ((returns-clause-attribute_edit c x y).0 h)
    go (Activate x) (Activate y) h = ap Activate ((returns-clause-unique_identifier c x y).0 h)
    go (Revoke x) (Revoke y) h = ap Revoke ((returns-clause-unique_identifier c x y).0 h)
    go (Destroy x) (Destroy y) h = ap Destroy ((returns-clause-unique_identifier c x y).0 h)
    go (Query x) (Query y) h = ap Query ((returns-clause-query c x y).0 h)
    go (DiscoverVersions x) (DiscoverVersions y) h =
        ap DiscoverVersions ((returns-clause-discover_versions c x y).0 h)
    go (Sign x) (Sign y) h = ap Sign ((returns-clause-sign c x y).0 h)
    go (RNGRetrieve x) (RNGRetrieve y) h = ap RNGRetrieve ((returns-clause-rng_retrieve c x y).0 h)
    go _ _ h = cc
