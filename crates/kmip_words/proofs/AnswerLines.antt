-- What is told of an answer, by what it is about.
use Rattle.std.proofs.Common.{◌≡◌, ◌≢◌, ℕ, List, ◌++◌, take, ap, sym, ◌∙◌, subst, Some, None, Result, Ok, Err, IfOk, OnOk, IsUtf8}
use Rattle.kmip_shape.specs.Val.{Val}
use Rattle.kmip_shape.specs.declared.style.Style.TheVariants.{Json}
use Rattle.kmip_client.specs.Outcome.{Answer, Outcome}
use Rattle.kmip_client.specs.declared.error.Error.{Error}
use Rattle.kmip_client.specs.declared.error.Error.TheVariants.{OutOfMemory}
use Rattle.kmip_words.specs.Exchange.{operation_asked, value_in_style, value_line, json_line}
use Rattle.kmip_words.specs.JsonLines.{IsGrammarLine, IsJsonLine}
use Rattle.kmip_words.specs.Refusal.{internal_error_line, failure_line}
use Rattle.kmip_words.specs.Strays.{error_to, ending_to}
use Rattle.kmip_words.specs.About.{objection, objected_ending, answer_about, ending_about, line_with, IsReply, AddsLineAs, AddsLine}
use Rattle.kmip_words.specs.declared.call.Call.{Call}
use Rattle.kmip_words.specs.declared.ending.Ending.{Ending}
use Rattle.kmip_words.specs.declared.ending.Ending.TheVariants.{Answered, Lost}
use Rattle.kmip_words.proofs.JsonLines.{added_line}

-- a payload is no text of an error
is_some : (payload : Val) → ◌≢◌ {A = Answer} (Ok payload) (Err OutOfMemory)
is_some payload none = absurd (cc)

-- a payload that is no answer
pub objected : (call : Call) (payload : Val) (first old new text : List ℕ)
    → objection call payload ≡ Some text → new ≡ old ++ internal_error_line text first
    → IsGrammarLine (internal_error_line text first)
    → AddsLineAs IsGrammarLine call (Ok payload) first Lost old new
objected call payload first old new text is line json = record {
  added = rw is line;
  ending_is = sym (ap objected_ending is);
  json = rw is json;
  some = is_some payload;
}

-- and one that is
pub answered : (call : Call) (payload : Val) (first old new : List ℕ)
    → objection call payload ≡ None
    → new ≡ old ++ value_line (value_in_style call payload Json) Json
    → IsGrammarLine (json_line call (Ok payload))
    → AddsLineAs IsGrammarLine call (Ok payload) first Answered old new
answered call payload first old new is line json = record {
  added = rw is line;
  ending_is = sym (ap objected_ending is);
  json = rw is json;
  some = is_some payload;
}

same_error : (error : Error) → error ≢ OutOfMemory → ◌≢◌ {A = Answer} (Err error) (Err OutOfMemory)
same_error error some none = some (cc)

-- an error
pub failed : {E : Type 0} (result : Result Ending E) (call : Call) (error : Error)
    (first old new : List ℕ) → ((shown : Error) → IsGrammarLine (failure_line shown first))
    → OnOk result (new ≡ old ++ failure_line (error_to (Some (operation_asked call)) error first) first)
    → IfOk result (λ ending. ending ≡ ending_to (Some (operation_asked call)) error first)
    → OnOk result (error ≢ OutOfMemory)
    → IfOk result (λ ending. AddsLineAs IsGrammarLine call (Err error) first ending old new)
failed (Ok ending) call error first old new json line ends some = record {
  added = line;
  ending_is = ends;
  json = json (error_to (Some (operation_asked call)) error first);
  some = same_error error some;
}
failed (Err stop) call error first old new json line ends some = tt

-- the line stands between two texts, so it is in UTF-8
pub in_utf8 : {E : Type 0} (result : Result Ending E) (call : Call) (answer : Answer)
    (first old new : List ℕ) → IsUtf8 old → IsUtf8 new
    → IfOk result (λ ending. AddsLineAs IsGrammarLine call answer first ending old new)
    → IfOk result (λ ending. AddsLine call answer first ending old new)
in_utf8 (Ok ending) call answer first old new before after tells = record {
  added = tells.added;
  ending_is = tells.ending_is;
  json = added_line old (line_with call (answer_about call answer first) first) new tells.json tells.added before after;
  some = tells.some;
}
in_utf8 (Err stop) call answer first old new before after tells = tt

-- what is told of the answer that was given is told of the one that is due

pub due_line : {E : Type 0} (result : Result Ending E) (call : Call) (given : Answer)
    (first : List ℕ) (due : Outcome) (response old new : List ℕ)
    → IsReply given first due response →
    IfOk result (λ ending. AddsLine call given first ending old new)
    → OnOk result (new ≡ old ++ line_with call (answer_about call due.answer (take due.taken response))
    (take due.taken response))
due_line (Ok ending) call given first due response old new reply tells =
    let is = reply tells.some in
    tells.added
    ∙ ap (λ (a : Answer). old ++ line_with call (answer_about call a first) first) is.0
    ∙ ap (λ (f : List ℕ). old ++ line_with call (answer_about call due.answer f) f) is.1
due_line (Err error) call given first due response old new reply tells = tt

pub due_ending : {E : Type 0} (result : Result Ending E) (call : Call) (given : Answer)
    (first : List ℕ) (due : Outcome) (response old new : List ℕ)
    → IsReply given first due response →
    IfOk result (λ ending. AddsLine call given first ending old new)
    → IfOk result (λ ending. ending ≡ ending_about call due.answer (take due.taken response))
due_ending (Ok ending) call given first due response old new reply tells =
    let is = reply tells.some in
    tells.ending_is ∙ ap (λ (a : Answer). ending_about call a first) is.0
    ∙ ap (λ (f : List ℕ). ending_about call due.answer f) is.1
due_ending (Err error) call given first due response old new reply tells = tt

pub due_json : {E : Type 0} (result : Result Ending E) (call : Call) (given : Answer)
    (first : List ℕ) (due : Outcome) (response old new : List ℕ)
    → IsReply given first due response →
    IfOk result (λ ending. AddsLine call given first ending old new)
    → OnOk result (IsJsonLine (line_with call
    (answer_about call due.answer (take due.taken response)) (take due.taken response)))
due_json (Ok ending) call given first due response old new reply tells =
    let is = reply tells.some in
    let P : Answer → List ℕ → Type 0 = λ a f. IsJsonLine (line_with call (answer_about call a f) f) in
    subst (λ a. P a (take due.taken response)) is.0 (subst (λ f. P given f) is.1 tells.json)
due_json (Err error) call given first due response old new reply tells = tt
