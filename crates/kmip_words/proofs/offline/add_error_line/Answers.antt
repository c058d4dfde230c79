use Rattle.kmip_words.proofs.AnswerLines.{failed}
use Rattle.kmip_words.proofs.offline.add_error_line.Goals as goal

pub returns : goal.returns
returns c =
    failed c.show_failure.result c.args.call.now c.args.error.now c.args.first.now c.args.line.now
    c.show_failure.new.line (λ error. c.lines_are_json.ensures.failure error c.args.first.now)
    (rw c.requires at c.show_failure.ensures.shown)
    (rw c.requires at c.show_failure.ensures.ending)
    c.show_failure.ensures.memory
