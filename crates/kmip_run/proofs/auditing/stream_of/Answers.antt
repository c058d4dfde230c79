use Rattle.std.proofs.Common.{sym}
use Rattle.kmip_run.proofs.Audited.{stream_utf8, stream_other}
use Rattle.kmip_run.proofs.auditing.stream_of.Goals as goal

pub returns-in-Ok : goal.returns-in-Ok
returns-in-Ok c = rw (stream_utf8 c.args.line.now c.in-Ok.ensures.cases.1, ← c.in-Ok.ensures.cases.0) c.bytes_of.ensures

pub returns-in-Err : goal.returns-in-Err
returns-in-Err c = sym (stream_other c.args.line.now c.in-Err.ensures.cases.0)
