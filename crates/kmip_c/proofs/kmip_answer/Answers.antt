use Rattle.std.proofs.Common.{◌∙◌, ap, sym, rules, w32, w64, SFits, pos, length, List, ℕ}
use Rattle.std.proofs.lemmas.Int.{to_z-of_z}
use Rattle.kmip_words.specs.Exchange.{Settings}
use Rattle.kmip_calls.specs.Answers.{line_of, ending_of}
use Rattle.kmip_calls.specs.Calls.{call_of, call_view}
use Rattle.kmip_exports.specs.Exports.{room_with}
use Rattle.kmip_c.specs.Calls.{id_of}
use Rattle.kmip_c.proofs.Calls.{answered}
use Rattle.kmip_c.proofs.kmip_answer.Goals as goal

pub returns-in-Ok-clause-answer : goal.returns-in-Ok-clause-answer
returns-in-Ok-clause-answer c = λ some.
    let status : SFits w32 c.status_of.result = search rules in
    let told : SFits w64 c.copy_out.result = search rules in
    let call = call_view c.in-Ok-Some.call in
    let asks = rw (c.in-Ok-Some.field-0-is, c.id_of.ensures) at c.in-Ok-Some.ensures in
    let ending = c.in-Ok.ensures.ending ∙ ap (λ (settings : Settings).
    ending_of settings call c.args.response.now) c.new-settings.ensures in
    let line = c.in-Ok.ensures.line ∙ ap (λ (settings : Settings).
    line_of settings call c.args.response.now) c.new-settings.ensures in
    rw (to_z-of_z w32 c.status_of.result status)
    (rw (to_z-of_z w64 c.copy_out.result told)
    (answered (call_of c.args.words.now (id_of c.args.id.now)) call c.args.response.now c.args.into.now
    c.copy_out.new.room c.in-Ok.answer.line.items c.in-Ok.answer.ending c.status_of.result c.copy_out.result
    (sym asks) ending line c.in-Ok.ensures.json c.status_of.ensures
    (c.copy_out.ensures.len ∙ ap (λ (x : List ℕ). pos (length x)) c.deref.ensures.value)
    (c.copy_out.ensures.room ∙ ap (λ (x : List ℕ). room_with x c.args.into.now)
    c.deref.ensures.value)))
