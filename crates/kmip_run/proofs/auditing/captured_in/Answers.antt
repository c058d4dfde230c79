use Rattle.std.proofs.Common.{◌<◌, length, arith}
use Rattle.std.proofs.lemmas.Bool.Decides.{nat_tests}
use Rattle.kmip_run.specs.Script.{lines_of}
use Rattle.kmip_run.proofs.Audited.{third_line}
use Rattle.kmip_run.proofs.auditing.captured_in.Goals as goal

pub returns-else-is_empty : goal.returns-else-is_empty
returns-else-is_empty c =
    let more : 0 < length c.in-Ok-Some-next_stream.next.1.now = grind (arith, nat_tests) in
    third_line (lines_of c.args.script.now)
    c.in-Ok-Some.next.0 c.in-Ok-Some-next_stream.next.0 c.in-Ok-Some.next.1.now c.in-Ok-Some-next_stream.next.1.now
    (rw c.in-Ok-Some.field-0-is at c.in-Ok-Some.ensures)
    (rw c.in-Ok-Some-next_stream.field-0-is at c.in-Ok-Some-next_stream.ensures) more
