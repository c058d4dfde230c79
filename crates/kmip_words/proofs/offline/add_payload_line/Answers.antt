use Rattle.std.proofs.Common.{◌≡◌, ◌∙◌, ap, sym, Some, None, option_map}
use Rattle.kmip_response.specs.Values.{response_payload_val}
use Rattle.kmip_client.specs.declared.error.Error.TheVariants.{InternalError}
use Rattle.kmip_words.specs.About.{objection}
use Rattle.kmip_words.proofs.AnswerLines.{objected, answered}
use Rattle.kmip_words.proofs.offline.add_payload_line.Goals as goal

pub returns-in_ok-push_internal_error-in-Some : goal.returns-in_ok-push_internal_error-in-Some
returns-in_ok-push_internal_error-in-Some c =
    let is : objection c.args.call.now (response_payload_val c.args.payload.now) ≡ Some c.in-Some.text.now =
    sym c.objection.ensures ∙ ap (option_map (λ text. text.now)) c.in-Some.is in
    objected c.args.call.now (response_payload_val c.args.payload.now)
    c.args.first.now c.args.line.now c.push_internal_error.new.line c.in-Some.text.now is
    c.in_ok-push_internal_error-in-Some.ensures
    (c.lines_are_json.ensures.failure (InternalError c.in-Some.text.now) c.args.first.now)

pub returns-in_ok-push_answer-in-None : goal.returns-in_ok-push_answer-in-None
returns-in_ok-push_answer-in-None c =
    let is : objection c.args.call.now (response_payload_val c.args.payload.now) ≡ None =
    sym c.objection.ensures ∙ ap (option_map (λ text. text.now)) c.in-None.is in
    answered c.args.call.now (response_payload_val c.args.payload.now)
    c.args.first.now c.args.line.now c.push_answer.new.line is
    c.in_ok-push_answer-in-None.ensures
    (c.lines_are_json.ensures.payload c.args.call.now (response_payload_val c.args.payload.now)
    c.fits.ensures c.requires)
