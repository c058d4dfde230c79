-- Which call words ask for, and why they ask for none.
use Rattle.std.specs.Prelude.{◌≡◌, ℕ, List, [], ◌∷◌, Option, Some, None, Bool, true, false, is_some}
use Rattle.std.specs.Option.{option_map, option_and_then}
use Rattle.kmip_client.specs.Operation.{TreeRequest}
use Rattle.kmip_operations.specs.Calls.{request_of}
use Rattle.kmip_operation_words.specs.Calls.{table_request, row_in}
use Rattle.kmip_operation_words.specs.Refusals.{IsRefusal}
use Rattle.kmip_operation_words.specs.Table.{calls}
use Rattle.kmip_request_words.specs.Complaints.{refusal}
use Rattle.kmip_words.specs.Calls.{typed_call}
use Rattle.kmip_words.specs.declared.call.Call.{Call}
use Rattle.kmip_calls.specs.declared.call.WordsCall.{WordsCall}
use Rattle.kmip_calls.specs.declared.call.WordsCall.TheVariants.{Typed, Operation}
use Rattle.kmip_calls.specs.declared.written.Word.{Word}
use Rattle.kmip_calls.specs.Written.{written_words}

-- a call that words ask for: a typed one, or the request of an operation
pub data Asked : Type 0 where
  typed : Call → Asked
  operation : TreeRequest → Asked

abbrev pub call_view : WordsCall → Asked
call_view (Typed call) = typed call
call_view (Operation call) = operation (request_of call)

abbrev pub or_operation : Option Call → Option TreeRequest → Option Asked
or_operation (Some call) request = Some (typed call)
or_operation None request = option_map operation request

-- the call that words of the grammar ask for: a typed one, or else one of the table
abbrev pub call_written : Option (List ℕ) → List (List ℕ) → Option Asked
call_written id words = or_operation (typed_call words) (table_request words id)

-- the call that words ask for as they are given; `id` is the Unique Batch Item ID of the request
-- (KMIP 1.0, 6.4), which that of a typed call has not
unfoldable pub call_of : List Word → Option (List ℕ) → Option Asked
call_of words id = option_and_then (call_written id) (written_words words)

-- whether words begin with the name of a call of the table
abbrev pub is_of_table : List (List ℕ) → Bool
is_of_table [] = false
is_of_table (name ∷ words) = is_some (row_in calls name)

-- of words that begin with such a name it is the refusal of the table, and else that of the typed
-- calls
abbrev pub RefusesBy : Bool → List (List ℕ) → List ℕ → Type 0
RefusesBy true words text = IsRefusal words text
RefusesBy false words text = text ≡ refusal words

-- a text says why words are no call, where all their texts are in UTF-8
abbrev pub Refuses : List Word → List ℕ → Type 0
Refuses words text =
    (written : List (List ℕ)) → written_words words ≡ Some written →
    RefusesBy (is_of_table written) written text
