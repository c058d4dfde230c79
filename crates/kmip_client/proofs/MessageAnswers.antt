-- What a message can answer.
use Rattle.std.proofs.Common.{ℕ, Bool, true, false, cond, not, List, pos, Option, Some, None, Ok, Err}
use Rattle.kmip_wire.specs.Tree.{Tree}
use Rattle.kmip_wire.specs.Reading.{item_of}
use Rattle.kmip_shape.specs.Val.{Val, Vals, NoVal, AndVal}
use Rattle.kmip_shape.specs.Reads.{root_read}
use Rattle.kmip_enums.specs.declared.operation.Operation.{Operation}
use Rattle.kmip_enums.specs.ResultReasons.{result_reason_line}
use Rattle.kmip_enums.specs.declared.result_status.ResultStatus.TheVariants.{OperationFailed, OperationPending, OperationUndone}
use Rattle.kmip_enums.specs.declared.result_reason.ResultReason.TheVariants.{ItemNotFound as ItemNotFoundReason}
use Rattle.kmip_response.specs.Tables.{response_message}
use Rattle.kmip_client.specs.declared.error.Error.TheVariants.{DeserializeError, InternalError, ServerError, ItemNotFound}
use Rattle.kmip_client.specs.Check.{check_item, check_items, has_status, has_operation, one_of, field_at, is_number, batch_count, batch_items, failure, payload_answer}
use Rattle.kmip_client.specs.Outcome.{Answer, read_answer, tree_answer, value_answer, response_tag}

-- it holds of each answer to a whole message
pub record OfMessages (P : Answer → Type 0) : Type 0 where
  pub ok : (payload : Val) → P (Ok payload)
  pub malformed : (text : List ℕ) → P (Err (DeserializeError text))
  pub internal : (text : List ℕ) → P (Err (InternalError text))
  pub server : (text : List ℕ) → P (Err (ServerError text))
  pub not_found : (text : List ℕ) → P (Err (ItemNotFound text))

either : (P : Answer → Type 0) (b : Bool) (x y : Answer) → P x → P y → P (cond b x y)
either P true x y p q = p
either P false x y p q = q

failure_says : {P : Answer → Type 0} → OfMessages P
    → (operation : Operation) (reason message : Option Val) → P (failure operation reason message)
failure_says {P} all operation reason message =
    either P (is_number (pos (result_reason_line ItemNotFoundReason).number) reason) _ _
    (all.not_found _) (all.server _)

payload_says : {P : Answer → Type 0} → OfMessages P → (payload : Option Val) → P (payload_answer payload)
payload_says all None = all.internal _
payload_says all (Some payload) = all.ok payload

item_says : {P : Answer → Type 0} → OfMessages P → (operation : Operation) (item : Val) → P (check_item operation item)
unfolding check_item
item_says {P} all operation item =
    either P (has_status OperationFailed item) _ _
    (failure_says all operation (one_of (field_at 3 item)) (one_of (field_at 4 item)))
    (either P (has_status OperationPending item) _ _ (all.internal _)
    (either P (has_status OperationUndone item) _ _ (all.internal _)
    (either P (not (has_operation operation item)) _ _ (all.internal _) (payload_says all (one_of (field_at 5 item))))))

items_say : {P : Answer → Type 0} → OfMessages P
    → (operation : Operation) (told : Bool) (items : Vals) → P (check_items operation told items)
items_say all operation true NoVal = all.server _
items_say all operation true (AndVal item NoVal) = item_says all operation item
items_say all operation true (AndVal item (AndVal next items)) = all.server _
items_say all operation false items = all.server _

value_says : {P : Answer → Type 0} → OfMessages P → (operation : Operation) (value : Option Val)
    → P (value_answer operation value)
value_says all operation None = all.internal _
value_says all operation (Some message) =
    items_say all operation (is_number (pos 1) (batch_count message)) (batch_items message)

tree_says : {P : Answer → Type 0} → OfMessages P → (operation : Operation) (tree : Option Tree)
    → P (tree_answer operation tree)
tree_says all operation None = all.malformed _
tree_says all operation (Some tree) = value_says all operation (root_read response_message response_tag tree)

pub message_says : {P : Answer → Type 0} → OfMessages P → (operation : Operation) (m : List ℕ)
    → P (read_answer operation m)
message_says all operation m = tree_says all operation (item_of 64 m)
