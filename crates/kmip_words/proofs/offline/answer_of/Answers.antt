use Rattle.std.proofs.Common.{take, sym}
use Rattle.std.proofs.lemmas.List.{length-take-le}
use Rattle.kmip_client.specs.Outcome.{answer_with_payload}
use Rattle.kmip_words.specs.About.{response_outcome}
use Rattle.kmip_words.proofs.Replies.{part_within, reply_is}
use Rattle.kmip_words.proofs.AnswerLines.{due_line, due_ending, due_json}
use Rattle.kmip_words.proofs.offline.answer_of.Goals as goal

pub slice_bounds-add_line-end : goal.slice_bounds-add_line-end
slice_bounds-add_line-end c =
    sym (length-take-le c.read_response-answer.result.taken c.args.response.now
    (part_within c.read_response-answer.result.taken c.args.response.now c.args.settings.now.limit
    (rw c.limit-limit.ensures at c.read_response-answer.ensures.taken)))

pub returns-clause-line : goal.returns-clause-line
returns-clause-line c =
    let reading = c.read_response-answer.result in
    due_line c.add_line.result c.args.call.now (answer_with_payload reading.answer)
    (take reading.taken c.args.response.now)
    (response_outcome c.args.settings.now c.args.call.now c.args.response.now)
    c.args.response.now c.args.line.now c.add_line.new.line
    (reply_is c.args.settings.now c.args.call.now c.in_ok-operation.operation c.args.response.now
    (answer_with_payload reading.answer) reading.taken c.in_ok-operation.ensures
    (rw c.limit-limit.ensures at c.read_response-answer.ensures.answer)
    (rw c.limit-limit.ensures at c.read_response-answer.ensures.taken)) c.add_line.ensures

pub returns-clause-ending : goal.returns-clause-ending
returns-clause-ending c =
    let reading = c.read_response-answer.result in
    due_ending c.add_line.result c.args.call.now (answer_with_payload reading.answer)
    (take reading.taken c.args.response.now)
    (response_outcome c.args.settings.now c.args.call.now c.args.response.now)
    c.args.response.now c.args.line.now c.add_line.new.line
    (reply_is c.args.settings.now c.args.call.now c.in_ok-operation.operation c.args.response.now
    (answer_with_payload reading.answer) reading.taken c.in_ok-operation.ensures
    (rw c.limit-limit.ensures at c.read_response-answer.ensures.answer)
    (rw c.limit-limit.ensures at c.read_response-answer.ensures.taken)) c.add_line.ensures

pub returns-clause-json : goal.returns-clause-json
returns-clause-json c =
    let reading = c.read_response-answer.result in
    due_json c.add_line.result c.args.call.now (answer_with_payload reading.answer)
    (take reading.taken c.args.response.now)
    (response_outcome c.args.settings.now c.args.call.now c.args.response.now)
    c.args.response.now c.args.line.now c.add_line.new.line
    (reply_is c.args.settings.now c.args.call.now c.in_ok-operation.operation c.args.response.now
    (answer_with_payload reading.answer) reading.taken c.in_ok-operation.ensures
    (rw c.limit-limit.ensures at c.read_response-answer.ensures.answer)
    (rw c.limit-limit.ensures at c.read_response-answer.ensures.taken)) c.add_line.ensures
