-- Calls of any operation whose payloads are trees, whatever KMIP's tables say of them: what a
-- response message answers (KMIP 1.0, 6.2, 6.4, 6.9 to 6.11, 6.14 and 7.1).
use Rattle.std.specs.Prelude.{◌≡◌, ℕ, pos, List, [], ◌∷◌, ◌++◌, length, Bool, true, false, not, ◌&&◌, ◌||◌, ◌==◌, bytes_eq, Option, Some, None, if◌then◌else◌, Result, Ok, Err, codes}
use Rattle.std.specs.List.{filter}
use Rattle.std.specs.Option.{option_and_then}
use Rattle.std.specs.Ordering.{int_eq}
use Rattle.std.specs.Fmt.{decimal}
use Rattle.kmip_tags.specs.Tags.{BATCH_COUNT, BATCH_ITEM, OPERATION, RESPONSE_HEADER, RESPONSE_MESSAGE, RESPONSE_PAYLOAD, RESULT_MESSAGE, RESULT_REASON, RESULT_STATUS, UNIQUE_BATCH_ITEM_ID}
use Rattle.kmip_wire.specs.Tree.{Tree, structure, none}
use Rattle.kmip_shape.specs.Shape.{has_tag}
use Rattle.kmip_wire.specs.Parts.{children_in, int_in, enumeration_in, text_in, bytes_in}
use Rattle.kmip_wire.specs.Reading.{item_of}
use Rattle.kmip_shape.specs.Enumerations.{variant_at}
use Rattle.kmip_enums.specs.Operations.{operation_line}
use Rattle.kmip_enums.specs.ResultStatuses.{result_status_line}
use Rattle.kmip_enums.specs.ResultReasons.{result_reason_line, result_reason_variants}
use Rattle.kmip_enums.specs.declared.operation.Operation.{Operation}
use Rattle.kmip_enums.specs.declared.result_status.ResultStatus.TheVariants.{Success, OperationFailed}
use Rattle.kmip_enums.specs.declared.result_reason.ResultReason.{ResultReason}
use Rattle.kmip_enums.specs.declared.result_reason.ResultReason.TheVariants as reasons
use Rattle.kmip_client.specs.declared.error.Error.{Error}
use Rattle.kmip_client.specs.declared.error.Error.TheVariants.{DeserializeError, ServerError, InternalError, ItemNotFound}
use Rattle.kmip_client.specs.Check.{count_text, failed_text}

-- ---- items by their tags

abbrev pub children_of : Tree → List Tree
children_of tree = elim (children_in tree) [ None ↦ [] | Some trees ↦ trees ]

-- the items with this tag within an item
abbrev pub all_under : ℕ → Tree → List Tree
all_under tag tree = filter (has_tag tag) (children_of tree)

abbrev pub sole : List Tree → Option Tree
sole (tree ∷ []) = Some tree
sole trees = None

-- the item with this tag, where there is exactly one
abbrev pub one_under : ℕ → Tree → Option Tree
one_under tag tree = sole (all_under tag tree)

-- its number, where it is an enumeration
abbrev pub number_under : ℕ → Tree → Option ℕ
number_under tag tree = option_and_then enumeration_in (one_under tag tree)

-- its text, and no text where it has none
abbrev pub text_under : ℕ → Tree → List ℕ
text_under tag tree =
    elim (option_and_then text_in (one_under tag tree)) [ None ↦ [] | Some text ↦ text ]

-- its bytes, where it is a Byte String
abbrev pub bytes_under : ℕ → Tree → Option (List ℕ)
bytes_under tag tree = option_and_then bytes_in (one_under tag tree)

-- ---- what a response message answers

abbrev pub malformed : Error
malformed = DeserializeError (codes "malformed TTLV")

abbrev pub not_response : Error
not_response = InternalError (codes "not a response message")

abbrev pub status_text : ℕ → List ℕ
status_text status = codes "Result status " ++ (decimal status ++ codes " is not supported")

abbrev pub other_text : Operation → List ℕ
other_text operation =
    codes "Response does not match request operation " ++ (operation_line operation).name

abbrev pub unlisted_text : Operation → ℕ → List ℕ → List ℕ
unlisted_text operation reason message =
    codes "Operation " ++ ((operation_line operation).name ++ (codes " failed for reason " ++
    (decimal reason ++ (codes ": " ++ message))))

-- a failure for a reason of the table
abbrev pub listed_failure : Operation → List ℕ → ResultReason → Error
listed_failure operation message reasons.ItemNotFound = ItemNotFound (failed_text operation message)
listed_failure operation message reason = ServerError (failed_text operation message)

abbrev pub numbered_failure : Operation → List ℕ → ℕ → Option ResultReason → Error
numbered_failure operation message number None =
    ServerError (unlisted_text operation number message)
numbered_failure operation message number (Some reason) = listed_failure operation message reason

-- a failure, by the number of its reason: with the server's message, and with a number that is not
-- in the table
abbrev pub failure_of : Operation → List ℕ → Option ℕ → Error
failure_of operation message None = ServerError (failed_text operation message)
failure_of operation message (Some number) =
    numbered_failure operation message number
    (variant_at result_reason_line result_reason_variants number)

-- the payload, and an empty one where there is none
abbrev pub payload_of : List Tree → Result Tree Error
payload_of [] = Ok (structure RESPONSE_PAYLOAD none)
payload_of (payload ∷ []) = Ok payload
payload_of payloads = Err not_response

abbrev pub names : Operation → Option ℕ → Bool
names operation None = false
names operation (Some number) = number == (operation_line operation).number

abbrev pub success_of : Operation → Tree → Result Tree Error
success_of operation item =
    if names operation (number_under OPERATION item)
    then payload_of (all_under RESPONSE_PAYLOAD item)
    else Err (InternalError (other_text operation))

-- what a batch item of this status answers
abbrev pub status_answer : Operation → Tree → Option ℕ → Result Tree Error
status_answer operation item None = Err not_response
status_answer operation item (Some status) =
    if status == (result_status_line Success).number then success_of operation item
    else if status == (result_status_line OperationFailed).number
    then Err (failure_of operation (text_under RESULT_MESSAGE item)
    (number_under RESULT_REASON item))
    else Err (InternalError (status_text status))

-- what the batch items answer, with whether the header counts one
abbrev pub items_answer : Operation → Bool → List Tree → Result Tree Error
items_answer operation true (item ∷ []) =
    status_answer operation item (number_under RESULT_STATUS item)
items_answer operation counted items = Err (InternalError (count_text (length items)))

abbrev pub is_one : Option Tree → Bool
is_one count = elim (option_and_then int_in count) [ None ↦ false | Some n ↦ int_eq n (pos 1) ]

-- whether the header counts one batch item
abbrev pub counts_one : Tree → Bool
counts_one message =
    is_one (option_and_then (one_under BATCH_COUNT) (one_under RESPONSE_HEADER message))

-- what a response message answers a request of this operation
abbrev pub message_answer : Operation → Tree → Result Tree Error
message_answer operation message =
    if has_tag RESPONSE_MESSAGE message
    then items_answer operation (counts_one message) (all_under BATCH_ITEM message)
    else Err not_response

abbrev pub parsed_answer : Operation → Option Tree → Result Tree Error
parsed_answer operation None = Err malformed
parsed_answer operation (Some message) = message_answer operation message

-- what a whole message answers
abbrev pub untyped_answer : Operation → List ℕ → Result Tree Error
untyped_answer operation m = parsed_answer operation (item_of 64 m)

-- The message is a success of this operation with this payload: a response message whose header
-- counts one batch item and which has one, with status success, this operation and this payload.
pub record IsSuccess (operation : Operation) (message payload : Tree) : Type 0 where
  pub is_response : has_tag RESPONSE_MESSAGE message ≡ true
  pub counts : counts_one message ≡ true
  pub item : Tree
  pub items : all_under BATCH_ITEM message ≡ item ∷ []
  pub status_is : number_under RESULT_STATUS item ≡ Some (result_status_line Success).number
  pub operation_is : number_under OPERATION item ≡ Some (operation_line operation).number
  pub payload_is : payload_of (all_under RESPONSE_PAYLOAD item) ≡ Ok payload

-- ---- the Unique Batch Item ID

-- whether a status is the enumeration's number 1, Operation Failed (KMIP 1.0, 9.1.3.2.27)
abbrev pub is_failed : Option ℕ → Bool
is_failed (Some status) = status == 1
is_failed None = false

abbrev pub reports_failure : Tree → Bool
reports_failure item = is_failed (number_under RESULT_STATUS item)

-- the batch item of a response message that has one, and whose header counts one
abbrev pub sole_item : Tree → Option Tree
sole_item message =
    if has_tag RESPONSE_MESSAGE message && counts_one message then one_under BATCH_ITEM message
    else None

abbrev pub are_these : List ℕ → Option (List ℕ) → Bool
are_these bytes None = false
are_these bytes (Some found) = bytes_eq found bytes

-- whether a batch item has this Unique Batch Item ID: exactly one, a Byte String of these bytes
abbrev pub has_id : List ℕ → Tree → Bool
has_id id item = are_these id (bytes_under UNIQUE_BATCH_ITEM_ID item)

-- whether a batch item is that of the request with this ID (KMIP 1.0, 6.4): it has the ID; or it
-- reports failure and names no operation and has no ID, as one does where the server could not read
-- the request
abbrev pub answers_id : List ℕ → Tree → Bool
answers_id id item =
    has_id id item
    || (reports_failure item && (length (all_under OPERATION item) == 0
    && length (all_under UNIQUE_BATCH_ITEM_ID item) == 0))

abbrev pub is_other_item : List ℕ → Option Tree → Bool
is_other_item id None = false
is_other_item id (Some item) = not (answers_id id item)

-- whether a message has one batch item, which is that of a request with another ID
abbrev pub is_of_other_item : Option (List ℕ) → Option Tree → Bool
is_of_other_item (Some id) (Some message) = is_other_item id (sole_item message)
is_of_other_item id message = false

abbrev pub other_item : Error
other_item = InternalError (codes "Response does not have the request's Unique Batch Item ID")

-- what a whole message answers a request with this ID
abbrev pub identified_answer : Operation → Option (List ℕ) → List ℕ → Result Tree Error
identified_answer operation id m =
    if is_of_other_item id (item_of 64 m) then Err other_item else untyped_answer operation m
