use Rattle.std.proofs.Common.{Some, List, ℕ, Result, take}
use Rattle.kmip_wire.specs.Tree.{Tree}
use Rattle.kmip_client.specs.declared.error.Error.{Error}
use Rattle.kmip_client.specs.Untyped.{identified_answer}
use Rattle.kmip_words.proofs.Replies.{part_within}
use Rattle.kmip_operations.specs.Answers.{sent_outcome}
use Rattle.kmip_operations.specs.Calls.{request_of}
use Rattle.kmip_operations.proofs.Replies.{reply_is, due_line, due_ending, told_json}
use Rattle.kmip_operations.proofs.answer.operation_answer.Goals as goal

pub tree_answer_of-requires : goal.tree_answer_of-requires
tree_answer_of-requires c =
    part_within c.read_operation_response-reading.result.taken c.args.response.now c.args.settings.now.limit
    (rw c.limit.ensures at c.read_operation_response-reading.ensures.taken)

pub returns-clause-line : goal.returns-clause-line
returns-clause-line c =
    let reading = c.read_operation_response-reading.result in
    let call = c.args.call.now in
    let reads : List ℕ → Result Tree Error = identified_answer call.operation call.id in
    due_line c.args.form c.tree_answer_of.result (Some (request_of call)) reading.answer
    (take reading.taken c.args.response.now)
    (sent_outcome reads c.args.settings.now c.args.response.now) c.args.response.now
    (reply_is reads c.args.settings.now c.args.response.now reading.answer reading.taken
    (rw (c.limit.ensures, c.id_of-id.ensures) at c.read_operation_response-reading.ensures.answer)
    (rw c.limit.ensures at c.read_operation_response-reading.ensures.taken))
    c.tree_answer_of.ensures

pub returns-clause-ending : goal.returns-clause-ending
returns-clause-ending c =
    let reading = c.read_operation_response-reading.result in
    let call = c.args.call.now in
    let reads : List ℕ → Result Tree Error = identified_answer call.operation call.id in
    due_ending c.args.form c.tree_answer_of.result (Some (request_of call)) reading.answer
    (take reading.taken c.args.response.now)
    (sent_outcome reads c.args.settings.now c.args.response.now) c.args.response.now
    (reply_is reads c.args.settings.now c.args.response.now reading.answer reading.taken
    (rw (c.limit.ensures, c.id_of-id.ensures) at c.read_operation_response-reading.ensures.answer)
    (rw c.limit.ensures at c.read_operation_response-reading.ensures.taken))
    c.tree_answer_of.ensures

pub returns-clause-json : goal.returns-clause-json
returns-clause-json c =
    let reading = c.read_operation_response-reading.result in
    told_json c.args.form c.tree_answer_of.result (Some (request_of c.args.call.now)) reading.answer
    (take reading.taken c.args.response.now) c.tree_answer_of.ensures
