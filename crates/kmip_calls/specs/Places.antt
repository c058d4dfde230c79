-- Where options stand among the words of a call.
use Rattle.std.specs.Prelude.{ℕ, ◌==◌, nat_le, Bool, true, false, not, List, Option, Some, None}
use Rattle.std.specs.List.{slice_get}
use Rattle.kmip_request_words.specs.Complaints.{is_attribute}
use Rattle.kmip_request_words.specs.Grammar.{WordRow, CallRow, row_of}
use Rattle.kmip_request_words.specs.declared.grammar.Rest.{Rest}
use Rattle.kmip_request_words.specs.declared.grammar.Rest.TheVariants as rests
use Rattle.kmip_operation_words.specs.declared.rows.Rest.{Rest as OperationRest}
use Rattle.kmip_operation_words.specs.declared.rows.Rest.TheVariants as operation_rests
use Rattle.kmip_operation_words.specs.Calls.{row_in}
use Rattle.kmip_operation_words.specs.Rows.{Row}
use Rattle.kmip_operation_words.specs.Table.{calls}

-- a word of the call's own is an option where it is to be an attribute, and each word behind is one
abbrev pub is_option_word : Option WordRow → Bool
is_option_word (Some word) = is_attribute word.kind
is_option_word None = true

-- one word of `locate` alone is a name, and else all are attributes
abbrev pub among : Rest → List WordRow → ℕ → ℕ → Bool
among rests.Options words count index = is_option_word (slice_get words index)
among rests.Attributes words count index = not (count == 1)
among rests.Names words count index = false
among rests.Nothing words count index = false

-- whether an option may stand at an index among so many words of a typed call
abbrev pub in_typed : CallRow → ℕ → ℕ → Bool
in_typed row count index = among row.rest row.words count index

abbrev pub behind : OperationRest → ℕ → ℕ → Bool
behind operation_rests.Options words index = nat_le words index
behind operation_rests.Words words index = false

-- and among those of an operation's call: behind its own
abbrev pub in_operation : Row → ℕ → Bool
in_operation row index = behind row.rest row.words index

abbrev pub in_table : Option Row → ℕ → Bool
in_table (Some row) index = in_operation row index
in_table None index = false

abbrev pub in_either : Option CallRow → Option Row → ℕ → ℕ → Bool
in_either (Some row) other count index = in_typed row count index
in_either None other count index = in_table other index

-- whether an option may stand at an index, counted from 0, among so many words of the call with this
-- name
abbrev pub may_be_option : List ℕ → ℕ → ℕ → Bool
may_be_option name count index = in_either (row_of name) (row_in calls name) count index
