-- What a response message that was read answers to a request of an operation: by its batch count,
-- and by the status, reason, message and operation of its batch item (KMIP 1.0, 6.2, 6.9 to 6.11
-- and 6.14).
use Rattle.std.specs.Prelude.{ℕ, zero, suc, ℤ, pos, List, [], ◌++◌, Bool, true, false, not, Option, Some, None, if◌then◌else◌, Result, Ok, Err, codes}
use Rattle.std.specs.Ordering.{int_eq}
use Rattle.std.specs.Fmt.{decimal}
use Rattle.kmip_shape.specs.Val.{Val, Vals, Field, Fields, Number, Text, Record, Absent, One, Many, NoField, AndField, NoVal, AndVal}
use Rattle.kmip_shape.specs.Shown.{entry_in_style}
use Rattle.kmip_shape.specs.declared.style.Style.TheVariants.{Bare}
use Rattle.kmip_enums.specs.Operations.{operation_line, operations}
use Rattle.kmip_enums.specs.ResultStatuses.{result_status_line}
use Rattle.kmip_enums.specs.ResultReasons.{result_reason_line}
use Rattle.kmip_enums.specs.declared.operation.Operation.{Operation}
use Rattle.kmip_enums.specs.declared.result_status.ResultStatus.{ResultStatus}
use Rattle.kmip_enums.specs.declared.result_status.ResultStatus.TheVariants.{OperationFailed, OperationPending, OperationUndone}
use Rattle.kmip_enums.specs.declared.result_reason.ResultReason.TheVariants as reasons
use Rattle.kmip_client.specs.declared.error.Error.{Error}
use Rattle.kmip_client.specs.declared.error.Error.TheVariants.{ServerError, InternalError, ItemNotFound}

-- the field at a place of a record, counted from 0
abbrev pub field_in : ℕ → Fields → Field
field_in n NoField = Absent
field_in zero (AndField field fields) = field
field_in (suc n) (AndField field fields) = field_in n fields

abbrev pub field_at : ℕ → Val → Field
field_at n (Record fields) = field_in n fields
field_at n val = Absent

-- the one value of a field, and the values of a list
abbrev pub one_of : Field → Option Val
one_of (One val) = Some val
one_of field = None

abbrev pub many_of : Field → Vals
many_of (Many vals) = vals
many_of field = NoVal

abbrev pub count_of : Vals → ℕ
count_of NoVal = 0
count_of (AndVal val vals) = suc (count_of vals)

abbrev pub is_number : ℤ → Option Val → Bool
is_number z (Some (Number y)) = int_eq y z
is_number z val = false

abbrev pub text_in : Option Val → List ℕ
text_in (Some (Text s)) = s
text_in val = []

-- the parts of a response message: header and batch items (KMIP 1.0, 7.1 and 7.2)
abbrev pub batch_count : Val → Option Val
batch_count message =
    elim (one_of (field_at 0 message)) [ None ↦ None | Some header ↦ one_of (field_at 2 header) ]

abbrev pub batch_items : Val → Vals
batch_items message = many_of (field_at 1 message)

-- the parts of a batch item: operation, unique batch item identifier, result status, reason and
-- message, payload
abbrev pub has_operation : Operation → Val → Bool
has_operation operation item =
    is_number (pos (operation_line operation).number) (one_of (field_at 0 item))

abbrev pub has_status : ResultStatus → Val → Bool
has_status status item =
    is_number (pos (result_status_line status).number) (one_of (field_at 2 item))

-- the operation of a batch item as texts print it
abbrev pub operation_shown : Option Val → List ℕ
operation_shown (Some (Number (pos n))) =
    codes "Some(" ++ (entry_in_style operations n Bare ++ codes ")")
operation_shown val = codes "None"

abbrev pub count_text : ℕ → List ℕ
count_text n = codes "Expected one batch item in response but received " ++ decimal n

abbrev pub failed_text : Operation → List ℕ → List ℕ
failed_text operation message =
    codes "Operation " ++ ((operation_line operation).name ++ (codes " failed: " ++ message))

abbrev pub mismatch_text : Operation → List ℕ → List ℕ
mismatch_text operation shown =
    codes "Response operation " ++ (shown ++ (codes
    " does not match request operation " ++ (operation_line operation).name))

abbrev pub payload_answer : Option Val → Result Val Error
payload_answer None =
    Err (InternalError (codes "Unable to process response payload due to wrong deserialized type!"))
payload_answer (Some payload) = Ok payload

-- a failed item answers that it was not found, or what the server says
abbrev pub failure : Operation → Option Val → Option Val → Result Val Error
failure operation reason message =
    if is_number (pos (result_reason_line reasons.ItemNotFound).number) reason
    then Err (ItemNotFound (failed_text operation (text_in message)))
    else Err (ServerError (failed_text operation (text_in message)))

-- what a batch item answers
unfoldable pub check_item : Operation → Val → Result Val Error
check_item operation item =
    if has_status OperationFailed item
    then failure operation (one_of (field_at 3 item)) (one_of (field_at 4 item))
    else if has_status OperationPending item
    then Err (InternalError (codes "Result status 'operation pending' is not supported"))
    else if has_status OperationUndone item
    then Err (InternalError (codes "Result status 'operation undone' is not supported"))
    else if not (has_operation operation item)
    then Err (InternalError
    (mismatch_text operation (operation_shown (one_of (field_at 0 item)))))
    else payload_answer (one_of (field_at 5 item))

-- what the batch items answer, with whether the header counts one
abbrev pub check_items : Operation → Bool → Vals → Result Val Error
check_items operation true (AndVal item NoVal) = check_item operation item
check_items operation _ items = Err (ServerError (count_text (count_of items)))

-- what a response message answers
abbrev pub check_response : Operation → Val → Result Val Error
check_response operation message =
    check_items operation (is_number (pos 1) (batch_count message)) (batch_items message)
