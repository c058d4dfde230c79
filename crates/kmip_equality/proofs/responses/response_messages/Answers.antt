use Rattle.std.specs.Cmp.{signed_Decides, booleans_Decides}
use Rattle.std.proofs.lemmas.Slice.Eq.{bytes_eq-Decides}
use Rattle.kmip_enums.specs.Operations.{operation_same}
use Rattle.kmip_enums.specs.ResultReasons.{result_reason_same}
use Rattle.kmip_enums.specs.ResultStatuses.{result_status_same}
use Rattle.kmip_response.specs.Same.{batch_item_same, message_extension_same, protocol_version_same, response_header_same, response_message_same, response_payload_same}
use Rattle.kmip_shape.specs.Dates.{date_same}
use Rattle.kmip_types.specs.ByteStrings.{unique_batch_item_id_same}
use Rattle.kmip_equality.proofs.Rows.{table, and_row, last_row_and, record_of, one_of, optional_of, list_of, by_value, numbers, texts, truths}
use Rattle.kmip_equality.proofs.responses.response_messages.Goals as goal

pub returns-clause-message_extension : goal.returns-clause-message_extension
returns-clause-message_extension c =
    by_value message_extension_same (λ x y. search (and_row, last_row_and, record_of, one_of texts bytes_eq-Decides, one_of truths booleans_Decides) depth 16)

pub returns-clause-response_header : goal.returns-clause-response_header
returns-clause-response_header c = by_value response_header_same (λ x y. search (
  table,
  one_of protocol_version_same c.response_values.ensures.protocol_version,
  one_of date_same signed_Decides,
  one_of numbers signed_Decides,
) depth 16)

pub returns-clause-batch_item : goal.returns-clause-batch_item
returns-clause-batch_item c = by_value batch_item_same (λ x y. search (
  table,
  optional_of operation_same c.code_values.ensures.operation,
  optional_of unique_batch_item_id_same c.field_values.ensures.unique_batch_item_id,
  one_of result_status_same c.code_values.ensures.result_status,
  optional_of result_reason_same c.code_values.ensures.result_reason,
  optional_of texts bytes_eq-Decides,
  optional_of response_payload_same c.response_payloads.ensures.payload,
  optional_of message_extension_same (returns-clause-message_extension c),
) depth 16)

pub returns-clause-response_message : goal.returns-clause-response_message
returns-clause-response_message c = by_value response_message_same (λ x y. search (
  table,
  one_of response_header_same (returns-clause-response_header c),
  list_of batch_item_same (returns-clause-batch_item c),
) depth 16)
