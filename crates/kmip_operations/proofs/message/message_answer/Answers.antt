use Rattle.std.proofs.Common.{None, take}
use Rattle.kmip_client.specs.WholeMessage.{whole_answer}
use Rattle.kmip_words.proofs.Replies.{part_within}
use Rattle.kmip_plain.specs.declared.payload.PayloadForm.TheVariants.{Tree as AsTree}
use Rattle.kmip_operations.specs.Answers.{sent_outcome}
use Rattle.kmip_operations.proofs.Replies.{reply_is, due_line, due_ending, told_json}
use Rattle.kmip_operations.proofs.message.message_answer.Goals as goal

pub tree_answer_of-requires : goal.tree_answer_of-requires
tree_answer_of-requires c =
    part_within c.read_whole_message-reading.result.taken c.args.response.now c.args.settings.now.limit
    (rw c.limit.ensures at c.read_whole_message-reading.ensures.taken)

pub returns-clause-line : goal.returns-clause-line
returns-clause-line c =
    let reading = c.read_whole_message-reading.result in
    due_line AsTree c.tree_answer_of.result None reading.answer (take reading.taken c.args.response.now)
    (sent_outcome whole_answer c.args.settings.now c.args.response.now) c.args.response.now
    (reply_is whole_answer c.args.settings.now c.args.response.now reading.answer reading.taken
    (rw c.limit.ensures at c.read_whole_message-reading.ensures.answer)
    (rw c.limit.ensures at c.read_whole_message-reading.ensures.taken))
    c.tree_answer_of.ensures

pub returns-clause-ending : goal.returns-clause-ending
returns-clause-ending c =
    let reading = c.read_whole_message-reading.result in
    due_ending AsTree c.tree_answer_of.result None reading.answer (take reading.taken c.args.response.now)
    (sent_outcome whole_answer c.args.settings.now c.args.response.now) c.args.response.now
    (reply_is whole_answer c.args.settings.now c.args.response.now reading.answer reading.taken
    (rw c.limit.ensures at c.read_whole_message-reading.ensures.answer)
    (rw c.limit.ensures at c.read_whole_message-reading.ensures.taken))
    c.tree_answer_of.ensures

pub returns-clause-json : goal.returns-clause-json
returns-clause-json c =
    let reading = c.read_whole_message-reading.result in
    told_json AsTree c.tree_answer_of.result None reading.answer (take reading.taken c.args.response.now) c.tree_answer_of.ensures
