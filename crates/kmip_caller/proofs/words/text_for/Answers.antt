use Rattle.std.proofs.Common.{sym}
use Rattle.kmip_caller.proofs.Contents.{text_for_utf8, text_for_other}
use Rattle.kmip_caller.proofs.words.text_for.Goals as goal

pub returns-in_ok-of-in-Ok : goal.returns-in_ok-of-in-Ok
returns-in_ok-of-in-Ok c =
    rw (c.in_ok-of-in-Ok.ensures, c.in-Ok.ensures.cases.0)
    (sym (text_for_utf8 c.args.contents.now c.in-Ok.ensures.cases.1))

pub returns-in-Err : goal.returns-in-Err
returns-in-Err c = sym (text_for_other c.args.contents.now c.in-Err.ensures.cases.0)
