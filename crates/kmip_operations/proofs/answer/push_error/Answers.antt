use Rattle.kmip_operations.proofs.AnswerLines.{told_to}
use Rattle.kmip_operations.proofs.answer.push_error.Goals as goal

pub returns : goal.returns
returns c =
    told_to c.ending_for.result _ c.operation_of.result _ c.args.error.now c.in_ok-ended.ended c.args.first.now
    c.args.line.now _ c.operation_of.ensures c.id_if_asked.ensures c.in_ok-ended.ensures c.ending_for.ensures
