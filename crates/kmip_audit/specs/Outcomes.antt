-- What an exchange came to, by its request and its response.
use Rattle.std.specs.Prelude.{ℕ, pos, List, Option, Some, None, Bool, true, not, if◌then◌else◌}
use Rattle.kmip_wire.specs.Tree.{Tree}
use Rattle.kmip_wire.specs.Reading.{item_of}
use Rattle.kmip_shape.specs.Val.{Val, Vals, Number, NoVal, AndVal}
use Rattle.kmip_shape.specs.Enumerations.{variant_at}
use Rattle.kmip_shape.specs.Reads.{root_read}
use Rattle.kmip_enums.specs.Operations.{operation_line, operation_variants}
use Rattle.kmip_enums.specs.ResultReasons.{result_reason_line, result_reason_variants}
use Rattle.kmip_enums.specs.declared.operation.Operation.{Operation}
use Rattle.kmip_enums.specs.declared.result_reason.ResultReason.{ResultReason}
use Rattle.kmip_enums.specs.declared.result_status.ResultStatus.TheVariants.{OperationFailed, OperationPending, OperationUndone}
use Rattle.kmip_request_read.specs.Reading.{Request, request_read}
use Rattle.kmip_response.specs.Tables.{response_message}
use Rattle.kmip_client.specs.Check.{field_at, one_of, is_number, batch_count, batch_items, has_status, has_operation}
use Rattle.kmip_client.specs.Outcome.{response_tag}
use Rattle.kmip_audit.specs.declared.outcomes.Outcome.{Outcome}
use Rattle.kmip_audit.specs.declared.outcomes.Outcome.TheVariants.{NoRequest, UnreadRequest, NoResponse, Malformed, Unread, NotOne, Failed, Pending, Undone, OtherOperation, NoPayload, Answered}

-- the reason, and below the operation, that a batch item gives
abbrev pub reason_in : Option Val → Option ResultReason
reason_in (Some (Number (pos n))) = variant_at result_reason_line result_reason_variants n
reason_in val = None

abbrev pub operation_in : Option Val → Option Operation
operation_in (Some (Number (pos n))) = variant_at operation_line operation_variants n
operation_in val = None

abbrev pub payload_outcome : Operation → Option Val → Outcome
payload_outcome operation None = NoPayload
payload_outcome operation (Some payload) = Answered operation

-- the outcome by a batch item, for a request of the operation
abbrev pub item_outcome : Operation → Val → Outcome
item_outcome operation item =
    if has_status OperationFailed item then Failed (reason_in (one_of (field_at 3 item)))
    else if has_status OperationPending item then Pending
    else if has_status OperationUndone item then Undone
    else if not (has_operation operation item)
    then OtherOperation (operation_in (one_of (field_at 0 item)))
    else payload_outcome operation (one_of (field_at 5 item))

-- the outcome by the batch items; the flag is whether the header counts one
abbrev pub items_outcome : Operation → Bool → Vals → Outcome
items_outcome operation true (AndVal item NoVal) = item_outcome operation item
items_outcome operation _ items = NotOne

-- the outcome by a response message
abbrev pub message_outcome : Operation → Val → Outcome
message_outcome operation message =
    items_outcome operation (is_number (pos 1) (batch_count message)) (batch_items message)

abbrev pub value_outcome : Operation → Option Val → Outcome
value_outcome operation None = Unread
value_outcome operation (Some message) = message_outcome operation message

abbrev pub tree_outcome : Operation → Option Tree → Outcome
tree_outcome operation None = Malformed
tree_outcome operation (Some tree) =
    value_outcome operation (root_read response_message response_tag tree)

-- the outcome by the bytes of a response, where there is one
abbrev pub response_outcome : Operation → Option (List ℕ) → Outcome
response_outcome operation None = NoResponse
response_outcome operation (Some m) = tree_outcome operation (item_of 64 m)

abbrev pub request_outcome : Option Request → Option (List ℕ) → Outcome
request_outcome None response = UnreadRequest
request_outcome (Some request) response = response_outcome request.operation response

-- the outcome of an exchange, by its request and its response, where there are such
abbrev pub outcome_of : Option (List ℕ) → Option (List ℕ) → Outcome
outcome_of None response = NoRequest
outcome_of (Some b) response = request_outcome (request_read b) response
