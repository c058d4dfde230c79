use Rattle.kmip_client.specs.Outcome.{answer_with_payload}
use Rattle.kmip_words.proofs.AnswerLines.{in_utf8}
use Rattle.kmip_words.proofs.offline.add_line.Goals as goal

pub returns : goal.returns
returns c =
    in_utf8 c.add_result_line-ending.result c.args.call.now (answer_with_payload c.args.answer) c.args.first.now
    c.args.line.now c.add_result_line-ending.new.line c.as_str.ensures.utf8 c.as_str-2.ensures.utf8
    c.add_result_line-ending.ensures
