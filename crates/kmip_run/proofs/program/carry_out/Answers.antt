use Rattle.std.proofs.Common.{refl}
use Rattle.kmip_run.proofs.Whole.{Finishes, finish_ends, cut_ends}
use Rattle.kmip_run.proofs.program.carry_out.Goals as goal

pub returns-in-Ok-clause-ends : goal.returns-in-Ok-clause-ends
returns-in-Ok-clause-ends g c =
    let e = c.finish.ensures in
    let wrote : Finishes c.as_str.result.now c.in-Ok.end (g.K.Sink.state c.perform.new.sink)
    (g.K.Sink.state c.finish.new.sink) c.finish.result =
    record {
      keeps = e.keeps;
      fault = e.fault;
      status_is = e.status;
      written = e.written;
      part = e.part;
    } in
    finish_ends c.finish.result (rw c.new-output.ensures at c.in-Ok.ensures.performs) (rw c.as_str.ensures.bytes at wrote)

pub returns-in-Err-SinkFailed-clause-ends : goal.returns-in-Err-SinkFailed-clause-ends
returns-in-Err-SinkFailed-clause-ends g c =
    cut_ends _ refl refl (λ is. c.in-Err-SinkFailed.field-0-is)
    (rw c.new-output.ensures at c.in-Err-SinkFailed.ensures.performs)

pub returns-clause-ends : goal.returns-clause-ends
returns-clause-ends g c =
    cut_ends _ refl refl (λ is. absurd (cc))
    (rw c.new-output.ensures at c.in-Err-OutOfMemory.ensures.performs)
