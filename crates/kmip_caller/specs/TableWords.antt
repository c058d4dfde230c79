-- The words of a call of the table, with a Unique Batch Item ID in front of them or without.
use Rattle.std.specs.Prelude.{ℕ, List, [], ◌∷◌, Bool, false, Option, codes}
use Rattle.std.specs.Option.{option_and_then, is_some}
use Rattle.kmip_client.specs.Operation.{TreeRequest}
use Rattle.kmip_words.specs.Options.{Given, option_given}
use Rattle.kmip_operation_words.specs.Calls.{row_in, table_request}
use Rattle.kmip_operation_words.specs.Table.{calls}
use Rattle.kmip_caller.specs.TreeWords.{item_id}

-- the hex of `item-id=HEX`, where that stands in front, and the words of the call
abbrev pub with_id : List (List ℕ) → Given
with_id words = option_given (codes "item-id=") words

-- whether words begin with the name of a call of the table
abbrev pub begins_with_name : List (List ℕ) → Bool
begins_with_name [] = false
begins_with_name (name ∷ words) = is_some (row_in calls name)

abbrev pub is_of_table : List (List ℕ) → Bool
is_of_table words = begins_with_name (with_id words).rest

-- the request of the operation that words ask for by the table
abbrev pub table_words : List (List ℕ) → Option TreeRequest
table_words words =
    option_and_then (table_request (with_id words).rest) (item_id (with_id words).value)
