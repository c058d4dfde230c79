-- There is a refusal for each order, and it is written or it is not.
use Rattle.std.proofs.Common.{◌≡◌, arith, ℕ, Bool, true, false, List, [], ◌∷◌, ◌++◌, Option, Some, None, refl, sym, ap, subst, codes}
use Rattle.std.specs.Prelude.{IsTrue}
use Rattle.std.specs.Option.{is_none}
use Rattle.kmip_link.specs.State.{SinkState, FaultCountRose}
use Rattle.kmip_words.specs.Streams.{WrotePart}
use Rattle.kmip_words.specs.JsonLines.{IsGrammarLine}
use Rattle.kmip_words.proofs.JsonLines.{error_line_by}
use Rattle.kmip_operations.specs.Calls.{operation_named, version_written}
use Rattle.kmip_caller.specs.TreeWords.{TreeText, an_operation, a_message, tree_words, item_id}
use Rattle.kmip_caller.specs.declared.command.Order.{Order}
use Rattle.kmip_caller.specs.declared.program.Status.TheVariants.{NoCall, OutOfMemory}
use Rattle.kmip_words.specs.Complaints.{refusal as words_refusal}
use Rattle.kmip_words.specs.Options.{Given}
use Rattle.kmip_operation_words.specs.Calls.{row_in}
use Rattle.kmip_operation_words.specs.Refusals.{IsWrong, with_form, IsRefusal as IsTableRefusal}
use Rattle.kmip_operation_words.specs.Rows.{Row}
use Rattle.kmip_operation_words.specs.Table.{calls}
use Rattle.kmip_caller.specs.TableWords.{with_id, is_of_table}
use Rattle.kmip_caller.specs.Refusal.{IsWrongBy, IsWrongTree, IsWrongRow, IsNoRow, IsUntyped, IsWhyNotBy, IsWhyNot, IsRefusal, IsRefusalWritten, grammar_line}
use Rattle.kmip_caller.proofs.Exchanges.{append_none}

-- nothing at all is a first part of a text
none_written : (sink : SinkState) (text : List ℕ) → WrotePart sink sink text
none_written sink text = (0, omega arith, append_none sink.sent)

wrong_by : (no_name no_version no_id : Bool) → (text : List ℕ) × IsWrongBy no_name no_version no_id text
wrong_by true no_version no_id = (codes "KMIP 1.2 has no operation of this name", refl)
wrong_by false true no_id = (codes "version= takes 1.0, 1.1 or 1.2", refl)
wrong_by false false true = (codes "item-id= takes an even number of hex digits, at least two", refl)
wrong_by false false false = (codes "the payload: " ++ [], ([], refl))

wrong_tree : (words : TreeText) → (text : List ℕ) × IsWrongTree words text
wrong_tree (an_operation name version hex payload) =
    wrong_by (is_none (operation_named name)) (is_none (version_written version)) (is_none (item_id hex))
wrong_tree (a_message message) = (codes "the message: " ++ [], ([], refl))

some_wrong : (row : Option Row) → (text : List ℕ) × IsWrong row text
some_wrong (Some row) =
    (with_form row [], ([], refl))
some_wrong None = (codes "the first word is the name of no call", refl)

some_table_refusal : (words : List (List ℕ)) → (text : List ℕ) × IsTableRefusal words text
some_table_refusal [] = (codes "there are no words", refl)
some_table_refusal (name ∷ words) = some_wrong (row_in calls name)

wrong_row : (no_id : Bool) (words : List (List ℕ)) → (text : List ℕ) × IsWrongRow no_id words text
wrong_row true words = (codes "item-id= takes an even number of hex digits, at least two", refl)
wrong_row false words = some_table_refusal words

no_row : (given : Given) → (text : List ℕ) × IsNoRow given text
no_row given = wrong_row (is_none (item_id given.value)) given.rest

untyped : (of_table : Bool) (words : List (List ℕ)) → (text : List ℕ) × IsUntyped of_table words text
untyped true words = no_row (with_id words)
untyped false words = (words_refusal words, refl)

why_not_by : (tree : Option TreeText) (words : List (List ℕ)) → (text : List ℕ) × IsWhyNotBy tree words text
why_not_by (Some tree) words = wrong_tree tree
why_not_by None words = untyped (is_of_table words) words

refusal_of : (order : Order) → ((text : List ℕ) × IsWhyNot order text)
    → (line : List ℕ) × IsRefusal order line
refusal_of order (text, why) = (grammar_line text, (text, why, refl))

some_refusal : (order : Order) → (line : List ℕ) × IsRefusal order line
some_refusal order = refusal_of order (why_not_by (tree_words order.words) order.words)

no_call_made : OutOfMemory ≡ NoCall → ⊥
no_call_made e = cc

nothing_written_of : (order : Order) (w : SinkState) → ((line : List ℕ) × IsRefusal order line)
    → IsRefusalWritten order (OutOfMemory ≡ NoCall) w w
nothing_written_of order w (line, is) =
    (line, is, (λ whole visible no_fault. absurd (no_call_made whole)), (λ visible. none_written w line))

-- where memory ran out before there was a text
pub nothing_written : (order : Order) (w : SinkState) → IsRefusalWritten order (OutOfMemory ≡ NoCall) w w
nothing_written order w = nothing_written_of order w (some_refusal order)

pub refusal_written : (order : Order) (whole : Type 0) (before after : SinkState) (text shown : List ℕ)
    → shown ≡ text → IsWhyNot order text
    → (whole → IsTrue before.tells → (FaultCountRose before.faults after.faults → ⊥) →
    after.sent ≡ before.sent ++ grammar_line shown)
    → (IsTrue before.tells → WrotePart before after (grammar_line shown))
    → IsRefusalWritten order whole before after
refusal_written order whole before after text shown same why line part =
    (grammar_line shown, (text, why, ap grammar_line same), line, part)

-- the line is JSON
pub json_line : (order : Order) (line : List ℕ) → IsRefusal order line → IsGrammarLine line
json_line order line (text, why, same) =
    subst IsGrammarLine (sym same) (error_line_by (codes "GrammarError") text refl)
