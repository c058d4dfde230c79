use Rattle.kmip_words.specs.Strays.{error_to}
use Rattle.kmip_plain.specs.declared.payload.PayloadForm.TheVariants.{Plain}
use Rattle.kmip_operations.proofs.AnswerLines.{error_told}
use Rattle.kmip_operations.proofs.answer.push_error_line.Goals as goal

pub returns : goal.returns
returns c =
    let shown = c.show_failure-ending.ensures in
    error_told c.show_failure-ending.result c.args.operation c.args.error.now c.args.first.now c.args.line.now
    c.show_failure-ending.new.line c.as_str.ensures.utf8 c.as_str-2.ensures.utf8
    (c.lines_are_json.ensures.error Plain (error_to c.args.operation c.args.error.now c.args.first.now)
    c.args.first.now)
    shown.shown shown.ending shown.memory
