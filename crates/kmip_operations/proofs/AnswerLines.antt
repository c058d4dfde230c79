-- What is told of an answer.
use Rattle.std.proofs.Common.{◌≡◌, ◌≢◌, ℕ, List, [], ◌++◌, inl, inr, Option, Some, None, Result, Ok, Err, IfOk, OnOk, ap, subst, ◌∙◌, IsUtf8}
use Rattle.kmip_wire.specs.Tree.{Tree}
use Rattle.kmip_shape.specs.declared.style.Style.TheVariants.{Json}
use Rattle.kmip_plain.specs.Payload.{payload_text}
use Rattle.kmip_plain.specs.declared.payload.PayloadForm.{PayloadForm}
use Rattle.kmip_client.specs.Operation.{TreeRequest}
use Rattle.kmip_client.specs.declared.error.Error.{Error}
use Rattle.kmip_client.specs.declared.error.Error.TheVariants.{InternalError, OutOfMemory}
use Rattle.kmip_enums.specs.declared.operation.Operation.{Operation}
use Rattle.kmip_words.specs.About.{objected_ending}
use Rattle.kmip_words.specs.Exchange.{value_line}
use Rattle.kmip_words.specs.Refusal.{failure_line}
use Rattle.kmip_words.specs.Strays.{error_to, ending_to}
use Rattle.kmip_words.specs.JsonLines.{IsGrammarLine}
use Rattle.kmip_words.specs.declared.ending.Ending.{Ending}
use Rattle.kmip_words.specs.declared.ending.Ending.TheVariants.{Answered, Lost}
use Rattle.kmip_words.proofs.JsonLines.{rest_utf8}
use Rattle.kmip_operations.specs.Answers.{tree_line, tree_or, operation_of, id_of, objection_to, ending_for, AddsErrorLine, AddsTreeLine}
use Rattle.kmip_operations.specs.JsonLines.{IsLineOf, IsTextLine, answer_json}

-- a payload is shown where there is no objection
pub tree_told : (form : PayloadForm) (asked : Option TreeRequest) (tree : Tree) (first old new : List ℕ)
    → None ≡ objection_to asked tree → new ≡ old ++ value_line (payload_text form tree) Json
    → IsLineOf (answer_json form tree) (tree_line form (Ok tree) first) → IsUtf8 (tree_line form (Ok tree) first)
    → AddsTreeLine form asked (Ok tree) first Answered old new
tree_told form asked tree first old new none line reads utf8 =
    let P : Option (List ℕ) → Type 0 = λ why. IsTextLine (tree_line form (tree_or why tree) first) in
    record {
      added = line ∙ ap (λ (why : Option (List ℕ)). old ++ tree_line form (tree_or why tree) first) none;
      ending_is = ap objected_ending none;
      json = subst P none (record { grammar = inl (answer_json form tree, reads); utf8 = utf8 });
      some = λ same. absurd (cc);
    }

-- and the objection where there is one
pub objection_told : (form : PayloadForm) (asked : Option TreeRequest) (tree : Tree) (text first old new : List ℕ)
    → Some text ≡ objection_to asked tree → new ≡ old ++ failure_line (InternalError text) first
    → IsTextLine (failure_line (InternalError text) first) → AddsTreeLine form asked (Ok tree) first Lost old new
objection_told form asked tree text first old new some line json =
    let P : Option (List ℕ) → Type 0 = λ why. IsTextLine (tree_line form (tree_or why tree) first) in
    record {
      added = line ∙ ap (λ (why : Option (List ℕ)). old ++ tree_line form (tree_or why tree) first) some;
      ending_is = ap objected_ending some;
      json = subst P some json;
      some = λ same. absurd (cc);
    }

same_error : (error : Error) → error ≢ OutOfMemory → ◌≢◌ {A = Result Tree Error} (Err error) (Err OutOfMemory)
same_error error some none = some (cc)

pub error_told : {E : Type 0} (result : Result Ending E) (operation : Option Operation) (error : Error)
    (first old new : List ℕ) → IsUtf8 old → IsUtf8 new
    → IsGrammarLine (failure_line (error_to operation error first) first)
    → OnOk result (new ≡ old ++ failure_line (error_to operation error first) first)
    → IfOk result (λ ending. ending ≡ ending_to operation error first)
    → OnOk result (error ≢ OutOfMemory)
    → IfOk result (λ ending. AddsErrorLine operation error first ending old new)
error_told (Ok ending) operation error first old new before after json shown ends some = record {
  added = shown;
  ending_is = ends;
  json = record {
    grammar = inr json;
    utf8 = rest_utf8 old (failure_line (error_to operation error first) first) (subst IsUtf8 shown after) before;
  };
  some = some;
}
error_told (Err stop) operation error first old new before after json shown ends some = tt

-- the error that a call is answered with
pub told_to : {E : Type 0} (result : Result Ending E) (asked : Option TreeRequest) (operation : Option Operation)
    (id : Option (List ℕ)) (error : Error) (ended : Ending) (first old new : List ℕ)
    → operation ≡ operation_of asked → id ≡ id_of asked → AddsErrorLine operation error first ended old new
    → IfOk result (λ ending. ending ≡ ending_for id first ended)
    → IfOk result (λ ending. (form : PayloadForm) → AddsTreeLine form asked (Err error) first ending old new)
told_to (Ok ending) asked operation id error ended first old new whose with_id tells last =
    let P : Option Operation → Type 0 = λ op. AddsErrorLine op error first ended old new in
    let own : AddsErrorLine (operation_of asked) error first ended old new = subst P whose tells in
    λ form. record {
      added = own.added;
      ending_is = last ∙ ap (λ (id : Option (List ℕ)). ending_for id first ended) with_id
          ∙ ap (ending_for (id_of asked) first) own.ending_is;
      json = own.json;
      some = same_error error own.some;
    }
told_to (Err stop) asked operation id error ended first old new whose with_id tells last = tt

-- a text that begins empty and gets the line of an error, and is then added
pub error_added : (form : PayloadForm) (asked : Option TreeRequest) (answer : Result Tree Error) (error : Error)
    (first : List ℕ) (ending : Ending) (text old new : List ℕ)
    → answer ≡ Err error → AddsTreeLine form asked (Err error) first ending [] text
    → new ≡ old ++ text → AddsTreeLine form asked answer first ending old new
error_added form asked answer error first ending text old new is adds more = rw is (record {
  added = more ∙ ap (λ (t : List ℕ). old ++ t) adds.added;
  ending_is = adds.ending_is;
  json = adds.json;
  some = adds.some;
})
