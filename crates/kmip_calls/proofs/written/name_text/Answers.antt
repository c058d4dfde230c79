use Rattle.std.proofs.Common.{sym}
use Rattle.kmip_calls.proofs.Words.{name_of_text, name_of_no_text}
use Rattle.kmip_calls.proofs.written.name_text.Goals as goal

pub returns-in-Ok : goal.returns-in-Ok
returns-in-Ok c =
    rw c.in-Ok.ensures.cases.0
    (sym (name_of_text c.args.name.now c.if-name.false c.in-Ok.ensures.cases.1))

pub returns-in-Err : goal.returns-in-Err
returns-in-Err c = sym (name_of_no_text c.args.name.now c.if-name.false c.in-Err.ensures.cases.0)
