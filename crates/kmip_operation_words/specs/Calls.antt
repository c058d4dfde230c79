-- What the words of a call ask for.
use Rattle.std.specs.Prelude.{ℕ, nat_le, List, [], ◌∷◌, ◌++◌, length, drop, Bool, true, false, ◌&&◌, Option, None, if◌then◌else◌, bytes_eq}
use Rattle.std.specs.List.{find}
use Rattle.std.specs.Option.{option_map, option_and_then}
use Rattle.kmip_tags.specs.Tags.{REQUEST_PAYLOAD}
use Rattle.kmip_enums.specs.declared.operation.Operation.{Operation}
use Rattle.kmip_wire.specs.Tree.{Tree, structure, trees_of}
use Rattle.kmip_client.specs.Operation.{TreeRequest}
use Rattle.kmip_client.specs.declared.operation.Version.TheVariants.{V1_2}
use Rattle.kmip_request_words.specs.Options.{are_options}
use Rattle.kmip_operation_words.specs.declared.rows.Rest.{Rest}
use Rattle.kmip_operation_words.specs.declared.rows.Rest.TheVariants as rests
use Rattle.kmip_operation_words.specs.Rows.{Field, Place, word_at, each_behind, always, Part, Row}
use Rattle.kmip_operation_words.specs.Items.{Words, all_items, part_items}
use Rattle.kmip_operation_words.specs.Table.{calls}

-- whether a field is given by an option
abbrev pub is_option : Place → Bool
is_option (word_at index) = false
is_option each_behind = false
is_option (always text) = false
is_option place = true

-- the names of the options among fields
abbrev pub option_names : List Field → List (List ℕ)
option_names [] = []
option_names (field ∷ fields) =
    if is_option field.place then field.name ∷ option_names fields else option_names fields

-- and among those of parts
abbrev pub all_option_names : List Part → List (List ℕ)
all_option_names [] = []
all_option_names (part ∷ parts) = option_names part.fields ++ all_option_names parts

-- whether words may stand behind those of a row: its options, by these names, in any order, each at
-- most once; or any words
abbrev pub may_stand : Rest → List (List ℕ) → List (List ℕ) → Bool
may_stand rests.Options names words = are_options names words
may_stand rests.Words names words = true

abbrev pub may_stand_behind : Row → List (List ℕ) → Bool
may_stand_behind row words = may_stand row.rest (all_option_names row.parts) words

-- the words of a call, behind those of its row
abbrev pub words_of : Row → List (List ℕ) → Words
words_of row words = record { all = words; behind = drop row.words words }

-- whether the words of a row are there, and behind them only what may stand there
abbrev pub are_of : Row → List (List ℕ) → Bool
are_of row words =
    nat_le row.words (length words) && may_stand_behind row (drop row.words words)

-- the payload (KMIP 1.0, 9.1.3.1) of these items
abbrev pub payload : List Tree → Tree
payload items = structure REQUEST_PAYLOAD (trees_of items)

-- the payload that words ask for by a row: the items of its fields that are given, in its order
abbrev pub payload_by : Row → List (List ℕ) → Option Tree
payload_by row words =
    if are_of row words
    then option_map payload (all_items (part_items (words_of row words)) row.parts)
    else None

-- the row with this name
abbrev pub row_in : List Row → List ℕ → Option Row
row_in rows name = find (λ row. bytes_eq row.name name) rows

abbrev pub asked_by : Row → List (List ℕ) → Option (Operation × Tree)
asked_by row words = option_map (λ tree. (row.operation, tree)) (payload_by row words)

-- the operation and the payload that the words of a call ask for; none where they are no call of the
-- table
abbrev pub operation_asked : List (List ℕ) → Option (Operation × Tree)
operation_asked [] = None
operation_asked (name ∷ words) =
    option_and_then (λ row. asked_by row words) (row_in calls name)

-- the request of an operation that the words of a call ask for, with this Unique Batch Item ID, where
-- there is one (KMIP 1.0, 6.4)
abbrev pub request_with : Option (List ℕ) → Operation × Tree → TreeRequest
request_with id asked = record {
  operation = asked.0;
  version = V1_2;
  id = id;
  payload = asked.1;
}

abbrev pub table_request : List (List ℕ) → Option (List ℕ) → Option TreeRequest
table_request words id = option_map (request_with id) (operation_asked words)
