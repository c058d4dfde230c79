-- The line that says why no call is made.
use Rattle.std.specs.Prelude.{◌≡◌, IsTrue, ℕ, List, ◌++◌, Bool, true, false, Option, Some, None, codes}
use Rattle.std.specs.Option.{is_none}
use Rattle.kmip_shape.specs.Shown.{text_in_style}
use Rattle.kmip_shape.specs.declared.style.Style.TheVariants.{Json}
use Rattle.kmip_link.specs.State.{SinkState, FaultCountRose}
use Rattle.kmip_words.specs.Streams.{WrotePart}
use Rattle.kmip_words.specs.Complaints.{refusal as words_refusal}
use Rattle.kmip_words.specs.Options.{Given}
use Rattle.kmip_operations.specs.Calls.{operation_named, version_written}
use Rattle.kmip_operation_words.specs.Refusals.{IsRefusal as IsTableRefusal}
use Rattle.kmip_caller.specs.TableWords.{with_id, is_of_table}
use Rattle.kmip_caller.specs.TreeWords.{TreeText, an_operation, a_message, tree_words, item_id}
use Rattle.kmip_caller.specs.declared.command.Order.{Order}

-- the line of JSON of a `GrammarError` with this text
abbrev pub grammar_line : List ℕ → List ℕ
grammar_line text =
    codes "{\"error\":\"GrammarError\",\"text\":" ++ (text_in_style text Json ++ codes "}\n")

-- why no call of the table is made: the Unique Batch Item ID in front is none, or its words are wrong
abbrev pub IsWrongRow : Bool → List (List ℕ) → List ℕ → Type 0
IsWrongRow true words text =
    text ≡ codes "item-id= takes an even number of hex digits, at least two"
IsWrongRow false words text = IsTableRefusal words text

abbrev pub IsNoRow : Given → List ℕ → Type 0
IsNoRow given text = IsWrongRow (is_none (item_id given.value)) given.rest text

-- why none is made of words with no JSON: those of the table, and others
abbrev pub IsUntyped : Bool → List (List ℕ) → List ℕ → Type 0
IsUntyped true words text = IsNoRow (with_id words) text
IsUntyped false words text = text ≡ words_refusal words

-- what is said of a payload or a message that is none: what it is, and why
abbrev pub IsNotRead : List ℕ → List ℕ → Type 0
IsNotRead what text = (why : List ℕ) × (text ≡ what ++ why)

-- where there is no operation of the name, where the version is none, where the Unique Batch Item
-- ID is none, and else
abbrev pub IsWrongBy : Bool → Bool → Bool → List ℕ → Type 0
IsWrongBy true no_version no_id text = text ≡ codes "KMIP 1.2 has no operation of this name"
IsWrongBy false true no_id text = text ≡ codes "version= takes 1.0, 1.1 or 1.2"
IsWrongBy false false true text =
    text ≡ codes "item-id= takes an even number of hex digits, at least two"
IsWrongBy false false false text = IsNotRead (codes "the payload: ") text

-- which of the words of a call of an operation is not what it should be
abbrev pub IsWrongOperation : List ℕ → List ℕ → Option (List ℕ) → List ℕ → Type 0
IsWrongOperation name version hex text =
    IsWrongBy (is_none (operation_named name)) (is_none (version_written version))
    (is_none (item_id hex)) text

-- why none is made whose payload or message is in JSON
abbrev pub IsWrongTree : TreeText → List ℕ → Type 0
IsWrongTree (an_operation name version hex payload) text = IsWrongOperation name version hex text
IsWrongTree (a_message message) text = IsNotRead (codes "the message: ") text

abbrev pub IsWhyNotBy : Option TreeText → List (List ℕ) → List ℕ → Type 0
IsWhyNotBy (Some tree) words text = IsWrongTree tree text
IsWhyNotBy None words text = IsUntyped (is_of_table words) words text

-- why nothing that the order asks for is made
abbrev pub IsWhyNot : Order → List ℕ → Type 0
IsWhyNot order text = IsWhyNotBy (tree_words order.words) order.words text

-- the line that says it
abbrev pub IsRefusal : Order → List ℕ → Type 0
IsRefusal order line = (text : List ℕ) × IsWhyNot order text × (line ≡ grammar_line text)

-- a refusal is written, unless its sink failed or memory ran out, and at most that
abbrev pub IsRefusalWritten : Order → Type 0 → SinkState → SinkState → Type 0
IsRefusalWritten order whole before after =
    (line : List ℕ) × IsRefusal order line
    × (whole → IsTrue before.tells → (FaultCountRose before.faults after.faults → ⊥) →
    after.sent ≡ before.sent ++ line)
    × (IsTrue before.tells → WrotePart before after line)
