-- What bytes answer, and what is told of it.
use Rattle.std.proofs.Common.{◌≡◌, ℕ, List, [], take, refl, ◌∙◌, ap, sym, subst, Option, Some, None, Result, Ok, Err, IfOk, IsSome}
use Rattle.kmip_wire.specs.Tree.{Tree}
use Rattle.kmip_client.specs.declared.error.Error.{Error}
use Rattle.kmip_client.specs.Message.{message_at, taken_for}
use Rattle.kmip_client.specs.Outcome.{OutcomeOf, Gives, answer_by, outcome_by}
use Rattle.kmip_client.specs.Operation.{TreeRequest}
use Rattle.kmip_words.specs.Exchange.{Settings}
use Rattle.kmip_words.proofs.Replies.{given_is}
use Rattle.kmip_operations.specs.Answers.{tree_line, answer_to, tree_ending, outcome_line, outcome_ending, sent_outcome, IsTreeReply, AddsTreeLine}
use Rattle.kmip_plain.specs.declared.payload.PayloadForm.{PayloadForm}
use Rattle.kmip_operations.specs.JsonLines.{IsTextLine}
use Rattle.kmip_operations.specs.declared.answer.TreeAnswer.{TreeAnswer}

pub reply_is : (reads : List ℕ → Result Tree Error) (settings : Settings) (response : List ℕ)
    (answer : Result Tree Error) (taken : ℕ) →
    Gives (answer_by reads (message_at response settings.limit)) answer →
    taken ≡ taken_for response (message_at response settings.limit) →
    IsTreeReply answer (take taken response) (sent_outcome reads settings response) response
reply_is reads settings response answer taken gives count = λ some. (
  given_is (answer_by reads (message_at response settings.limit)) answer gives some,
  ap (λ (n : ℕ). take n response) count,
)

-- ---- it is what a client answers, once the request was sent, over a link that has these bytes to read

pub line_same : (form : PayloadForm) (message : Option (List ℕ)) (reads : List ℕ → Result Tree Error)
    (settings : Settings) (asked : Option TreeRequest) (rest : List ℕ) → IsSome message →
    outcome_line form asked (outcome_by message reads settings.limit rest) rest
    ≡ outcome_line form asked (sent_outcome reads settings rest) rest
line_same form None reads settings asked rest some = absurd (cc)
line_same form (Some message) reads settings asked rest some = refl

pub ending_same : (message : Option (List ℕ)) (reads : List ℕ → Result Tree Error)
    (settings : Settings) (asked : Option TreeRequest) (rest : List ℕ)
    → IsSome message → outcome_ending asked (outcome_by message reads settings.limit rest) rest
    ≡ outcome_ending asked (sent_outcome reads settings rest) rest
ending_same None reads settings asked rest some = absurd (cc)
ending_same (Some message) reads settings asked rest some = refl

-- ---- what is told of the answer that was given is told of the one that is due

pub due_line : {E : Type 0} (form : PayloadForm) (result : Result TreeAnswer E) (asked : Option TreeRequest)
    (given : Result Tree Error) (first : List ℕ) (due : OutcomeOf Tree) (response : List ℕ)
    → IsTreeReply given first due response →
    IfOk result (λ answer. AddsTreeLine form asked given first answer.ending [] answer.line.items) →
    IfOk result (λ answer. answer.line.items ≡ outcome_line form asked due response)
due_line form (Ok answer) asked given first due response reply tells =
    let is = reply tells.some in
    tells.added ∙ ap (λ (a : Result Tree Error). tree_line form (answer_to asked a first) first) is.0
    ∙ ap (λ (f : List ℕ). tree_line form (answer_to asked due.answer f) f) is.1
due_line form (Err error) asked given first due response reply tells = tt

pub due_ending : {E : Type 0} (form : PayloadForm) (result : Result TreeAnswer E) (asked : Option TreeRequest)
    (given : Result Tree Error) (first : List ℕ) (due : OutcomeOf Tree) (response : List ℕ)
    → IsTreeReply given first due response →
    IfOk result (λ answer. AddsTreeLine form asked given first answer.ending [] answer.line.items) →
    IfOk result (λ answer. answer.ending ≡ outcome_ending asked due response)
due_ending form (Ok answer) asked given first due response reply tells =
    let is = reply tells.some in
    tells.ending_is ∙ ap (λ (a : Result Tree Error). tree_ending asked a first) is.0
    ∙ ap (λ (f : List ℕ). tree_ending asked due.answer f) is.1
due_ending form (Err error) asked given first due response reply tells = tt

pub told_json : {E : Type 0} (form : PayloadForm) (result : Result TreeAnswer E) (asked : Option TreeRequest)
    (given : Result Tree Error) (first : List ℕ) →
    IfOk result (λ answer. AddsTreeLine form asked given first answer.ending [] answer.line.items) →
    IfOk result (λ answer. IsTextLine answer.line.items)
told_json form (Ok answer) asked given first tells =
    let P : List ℕ → Type 0 = IsTextLine in subst P (sym tells.added) tells.json
told_json form (Err error) asked given first tells = tt
