use Rattle.std.proofs.Common.{sym}
use Rattle.kmip_calls.proofs.Words.{of_text, of_no_text}
use Rattle.kmip_calls.proofs.written.word_written.Goals as goal

pub returns-in_ok-text_written-in-Ok : goal.returns-in_ok-text_written-in-Ok
returns-in_ok-text_written-in-Ok c =
    rw (c.in_ok-text_written-in-Ok.ensures, c.in-Ok.ensures.cases.0)
    (sym (of_text c.args.is_option c.args.word.now c.if-word.false c.in-Ok.ensures.cases.1))

pub returns-in-Err : goal.returns-in-Err
returns-in-Err c =
    sym (of_no_text c.args.is_option c.args.word.now c.if-word.false c.in-Err.ensures.cases.0)
