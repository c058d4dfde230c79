-- Whether a response is that of another call, by the operation that it names (KMIP 1.0, 6.2, 6.14
-- and 7.2), and what is shown of an error then.
use Rattle.std.specs.Prelude.{ℕ, List, [], ◌++◌, ◌==◌, length, Bool, true, false, not, ◌&&◌, ◌||◌, Option, Some, None, Err, if◌then◌else◌, codes}
use Rattle.std.specs.Option.{option_and_then}
use Rattle.std.specs.Fmt.{decimal}
use Rattle.kmip_tags.specs.Tags.{OPERATION}
use Rattle.kmip_wire.specs.Tree.{Tree}
use Rattle.kmip_wire.specs.Reading.{item_of}
use Rattle.kmip_shape.specs.Val.{Val}
use Rattle.kmip_shape.specs.Enumerations.{variant_at}
use Rattle.kmip_enums.specs.Operations.{operation_line, operation_variants}
use Rattle.kmip_enums.specs.declared.operation.Operation.{Operation}
use Rattle.kmip_client.specs.Check.{mismatch_text}
use Rattle.kmip_client.specs.Untyped.{all_under, number_under, names, reports_failure, sole_item}
use Rattle.kmip_client.specs.declared.error.Error.{Error}
use Rattle.kmip_client.specs.declared.error.Error.TheVariants.{InternalError}
use Rattle.kmip_words.specs.Exchange.{error_ending}
use Rattle.kmip_words.specs.declared.ending.Ending.{Ending}
use Rattle.kmip_words.specs.declared.ending.Ending.TheVariants.{Lost}

-- whether a batch item is that of an operation: it names it; or it reports failure and names none,
-- as one does where the server could not read the request
abbrev pub is_item_of : Operation → Tree → Bool
is_item_of operation item =
    names operation (number_under OPERATION item)
    || (reports_failure item && length (all_under OPERATION item) == 0)

abbrev pub is_stray_item : Operation → Option Tree → Bool
is_stray_item operation (Some item) = not (is_item_of operation item)
is_stray_item operation None = true

abbrev pub is_stray_message : Operation → Option Tree → Bool
is_stray_message operation (Some message) = is_stray_item operation (sole_item message)
is_stray_message operation None = false

-- Whether these bytes are a message that is no response to a call of this operation: it is no
-- response message, its batch items or its batch count are not one, or its batch item is that of
-- another operation. It belongs to another call, and so may the next message.
abbrev pub is_stray : Operation → List ℕ → Bool
is_stray operation response = is_stray_message operation (item_of 64 response)

-- how a call of this operation ended that was answered with such an error, where this is the
-- response; of a message of the caller's no operation is known
abbrev pub ending_to : Option Operation → Error → List ℕ → Ending
ending_to (Some operation) error response =
    if is_stray operation response then Lost else error_ending error
ending_to None error response = error_ending error

abbrev pub name_or_number : Option Operation → ℕ → List ℕ
name_or_number (Some operation) number = (operation_line operation).name
name_or_number None number = decimal number

-- an operation by its number, as texts show it: its name, or its number where it is in no table
abbrev pub operation_text : Option ℕ → List ℕ
operation_text (Some number) =
    name_or_number (variant_at operation_line operation_variants number) number
operation_text None = codes "None"

-- the error for a failure of another operation, where the batch item reports one
abbrev pub other_failure : Operation → Option Tree → Option (List ℕ)
other_failure operation (Some item) =
    if reports_failure item && not (is_item_of operation item)
    then Some (mismatch_text operation (operation_text (number_under OPERATION item)))
    else None
other_failure operation None = None

abbrev pub error_or : Option (List ℕ) → Error → Error
error_or (Some text) error = InternalError text
error_or None error = error

-- the error that is shown: a failure of another operation is none of this call, and so an
-- `InternalError` that says what came
abbrev pub error_to : Option Operation → Error → List ℕ → Error
error_to (Some operation) error response =
    error_or (other_failure operation (option_and_then sole_item (item_of 64 response))) error
error_to None error response = error
