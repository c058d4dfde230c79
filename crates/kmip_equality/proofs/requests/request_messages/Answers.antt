use Rattle.kmip_enums.specs.CredentialTypes.{credential_type_same}
use Rattle.kmip_enums.specs.Operations.{operation_same}
use Rattle.kmip_request.specs.Same.{authentication_same, batch_item_same, count_same, credential_same, credential_value_same, password_same, protocol_version_same, request_header_same, request_message_same, request_payload_same, size_same, username_same}
use Rattle.kmip_types.specs.ByteStrings.{unique_batch_item_id_same}
use Rattle.std.proofs.Common.{◌≡◌}
use Rattle.std.specs.Bool.{Decides}
use Rattle.kmip_request.specs.Values.{credential_value_val}
use Rattle.kmip_request.specs.declared.authentication.CredentialValue.{CredentialValue}
use Rattle.kmip_request.specs.declared.authentication.CredentialValue.TheVariants.{UsernameAndPassword}
use Rattle.kmip_request.specs.contracts.authentication.CredentialValuePartialEq.TheImpl as equality
use Rattle.kmip_equality.proofs.Rows.{table, one_of, optional_of, list_of, by_value}
use Rattle.kmip_equality.proofs.requests.request_messages.Goals as goal

pub returns-clause-credential_value : goal.returns-clause-credential_value
returns-clause-credential_value c = by_value credential_value_same go
  where
    go : (x y : CredentialValue) → Decides (equality.ghosts.eq x y) (credential_value_val x ≡ credential_value_val y)
    go (UsernameAndPassword x0 x1) (UsernameAndPassword y0 y1) =
        search (
          table,
          one_of username_same c.request_fields.ensures.username,
          optional_of password_same c.request_fields.ensures.password,
        ) depth 16

pub returns-clause-credential : goal.returns-clause-credential
returns-clause-credential c = by_value credential_same (λ x y. search (
  table,
  one_of credential_type_same c.code_values.ensures.credential_type,
  one_of credential_value_same (returns-clause-credential_value c),
) depth 16)

pub returns-clause-authentication : goal.returns-clause-authentication
returns-clause-authentication c =
    by_value authentication_same (λ x y. search (table, one_of credential_same (returns-clause-credential c)) depth 16)

pub returns-clause-request_header : goal.returns-clause-request_header
returns-clause-request_header c = by_value request_header_same (λ x y. search (
  table,
  one_of protocol_version_same c.request_values.ensures.protocol_version,
  optional_of size_same c.request_fields.ensures.maximum_response_size,
  optional_of authentication_same (returns-clause-authentication c),
  one_of count_same c.request_fields.ensures.batch_count,
) depth 16)

pub returns-clause-batch_item : goal.returns-clause-batch_item
returns-clause-batch_item c = by_value batch_item_same (λ x y. search (
  table,
  one_of operation_same c.code_values.ensures.operation,
  optional_of unique_batch_item_id_same c.field_values.ensures.unique_batch_item_id,
  one_of request_payload_same c.request_payloads.ensures,
) depth 16)

pub returns-clause-request_message : goal.returns-clause-request_message
returns-clause-request_message c = by_value request_message_same (λ x y. search (
  table,
  one_of request_header_same (returns-clause-request_header c),
  list_of batch_item_same (returns-clause-batch_item c),
) depth 16)
