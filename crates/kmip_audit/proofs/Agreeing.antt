-- A message is told as answered exactly where a client answers a payload.
use Rattle.std.proofs.Common.{ℕ, pos, refl, List, Option, Some, None, Bool, true, false, not, cond, Err}
use Rattle.kmip_wire.specs.Tree.{Tree}
use Rattle.kmip_wire.specs.Reading.{item_of}
use Rattle.kmip_shape.specs.Val.{Val, Vals, NoVal, AndVal}
use Rattle.kmip_shape.specs.Reads.{root_read}
use Rattle.kmip_enums.specs.ResultReasons.{result_reason_line}
use Rattle.kmip_enums.specs.declared.operation.Operation.{Operation}
use Rattle.kmip_enums.specs.declared.result_reason.ResultReason.{ResultReason}
use Rattle.kmip_enums.specs.declared.result_reason.ResultReason.TheVariants as reasons
use Rattle.kmip_enums.specs.declared.result_status.ResultStatus.TheVariants.{OperationFailed, OperationPending, OperationUndone}
use Rattle.kmip_response.specs.Tables.{response_message}
use Rattle.kmip_client.specs.declared.error.Error.{Error}
use Rattle.kmip_client.specs.Check.{field_at, one_of, is_number, batch_count, batch_items, has_status, has_operation, payload_answer, check_item, check_items, check_response}
use Rattle.kmip_client.specs.Outcome.{response_tag, value_answer, tree_answer, read_answer}
use Rattle.kmip_audit.specs.declared.outcomes.Outcome.TheVariants.{Failed, Pending, Undone, OtherOperation}
use Rattle.kmip_audit.specs.Outcomes.{payload_outcome, item_outcome, items_outcome, message_outcome, value_outcome, tree_outcome, response_outcome}
use Rattle.kmip_audit.specs.Agreement.{Agree}

payloads : (o : Operation) (payload : Option Val) → Agree o (payload_outcome o payload) (payload_answer payload)
payloads o None = (λ h. absurd (cc), λ h. absurd (let e = h.1 in cc))
payloads o (Some val) = (λ h. (val, refl), λ h. refl)

-- by the tests, in order
tested : (o : Operation) (failed missing pending undone same : Bool) (payload : Option Val)
    (reason : Option ResultReason) (other : Option Operation) (e f p u m : Error) →
    Agree o (cond failed (Failed reason)
    (cond pending Pending (cond undone Undone
    (cond (not same) (OtherOperation other) (payload_outcome o payload)))))
    (cond failed (cond missing (Err e) (Err f))
    (cond pending (Err p) (cond undone (Err u)
    (cond (not same) (Err m) (payload_answer payload)))))
tested o true true pending undone same payload reason other e f p u m =
    (λ h. absurd (cc), λ h. absurd (let k = h.1 in cc))
tested o true false pending undone same payload reason other e f p u m =
    (λ h. absurd (cc), λ h. absurd (let k = h.1 in cc))
tested o false missing true undone same payload reason other e f p u m =
    (λ h. absurd (cc), λ h. absurd (let k = h.1 in cc))
tested o false missing false true same payload reason other e f p u m =
    (λ h. absurd (cc), λ h. absurd (let k = h.1 in cc))
tested o false missing false false true payload reason other e f p u m = payloads o payload
tested o false missing false false false payload reason other e f p u m =
    (λ h. absurd (cc), λ h. absurd (let k = h.1 in cc))

items : (o : Operation) (item : Val) → Agree o (item_outcome o item) (check_item o item)
unfolding check_item
items o item = tested o (has_status OperationFailed item)
    (is_number (pos (result_reason_line reasons.ItemNotFound).number) (one_of (field_at 3 item)))
    (has_status OperationPending item) (has_status OperationUndone item) (has_operation o item)
    (one_of (field_at 5 item)) _ _ _ _ _ _ _

all_items : (o : Operation) (b : Bool) (vals : Vals) → Agree o (items_outcome o b vals) (check_items o b vals)
all_items o true NoVal = (λ h. absurd (cc), λ h. absurd (let k = h.1 in cc))
all_items o true (AndVal item NoVal) = items o item
all_items o true (AndVal item (AndVal next vals)) = (λ h. absurd (cc), λ h. absurd (let k = h.1 in cc))
all_items o false NoVal = (λ h. absurd (cc), λ h. absurd (let k = h.1 in cc))
all_items o false (AndVal item vals) = (λ h. absurd (cc), λ h. absurd (let k = h.1 in cc))

pub messages : (o : Operation) (message : Val) → Agree o (message_outcome o message) (check_response o message)
messages o message = all_items o (is_number (pos 1) (batch_count message)) (batch_items message)

values : (o : Operation) (message : Option Val) → Agree o (value_outcome o message) (value_answer o message)
values o None = (λ h. absurd (cc), λ h. absurd (let k = h.1 in cc))
values o (Some message) = messages o message

trees : (o : Operation) (tree : Option Tree) → Agree o (tree_outcome o tree) (tree_answer o tree)
trees o None = (λ h. absurd (cc), λ h. absurd (let k = h.1 in cc))
trees o (Some tree) = values o (root_read response_message response_tag tree)

pub responses : (o : Operation) (m : List ℕ) → Agree o (response_outcome o (Some m)) (read_answer o m)
responses o m = trees o (item_of 64 m)
