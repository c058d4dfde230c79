use Rattle.std.proofs.Common.{refl}
use Rattle.kmip_caller.specs.Program.{streams}
use Rattle.kmip_caller.proofs.Runs.{made, refused, broken_off}
use Rattle.kmip_caller.proofs.program.run.Goals as goal

pub returns-in-Ok-Some : goal.returns-in-Ok-Some
returns-in-Ok-Some g c =
    let e = c.report.ensures in
    made c.args.order.now (g.W.Sink.state c.args.wire.now) (g.W.Sink.state c.make_call.new.wire)
    (g.S.Source.state c.args.source.now) (g.S.Source.state c.make_call.new.source)
    (g.F.Sink.state c.args.kept.now) (g.F.Sink.state c.report.new.kept)
    (g.K.Sink.state c.args.errors.now) (g.K.Sink.state c.report.new.errors)
    _ _ _ _ c.report.result
    (rw c.in-Ok-Some.field-0-is at c.in-Ok-Some.ensures.made)
    (rw c.in-Ok-Some.field-0-is at c.in-Ok-Some.ensures.words)
    (record {
      status_is = e.status;
      recorded = e.recorded;
      recorded_part = e.recorded_part;
      written = e.written;
      written_part = e.written_part;
      still_written = e.still_written;
      cause = e.cause;
    })

pub returns-in-Ok-None : goal.returns-in-Ok-None
returns-in-Ok-None g c =
    let e = c.refuse_words.ensures in
    let none = c.in-Ok-None.ensures.none c.in-Ok-None.field-0-is in
    refused c.args.order.now (streams (g.W.Sink.state c.args.wire.now)
    (g.S.Source.state c.args.source.now) (g.F.Sink.state c.args.kept.now)
    (g.K.Sink.state c.args.errors.now))
    (streams (g.W.Sink.state c.make_call.new.wire) (g.S.Source.state c.make_call.new.source)
    (g.F.Sink.state c.args.kept.now) (g.K.Sink.state c.refuse_words.new.errors))
    c.refuse_words.result none
    (record {
      status_is = e.status;
      wire = c.make_call.ensures.wire none;
      source = c.make_call.ensures.source none;
      kept = refl;
      errors = e.written;
    })

pub returns-in-Err : goal.returns-in-Err
returns-in-Err g c =
    broken_off c.args.order.now (g.W.Sink.state c.args.wire.now)
    (g.W.Sink.state c.make_call.new.wire) (g.S.Source.state c.args.source.now)
    (g.S.Source.state c.make_call.new.source)
    (g.F.Sink.state c.args.kept.now) (g.K.Sink.state c.args.errors.now)
    c.make_call.ensures.wire c.make_call.ensures.source c.in-Err.ensures.broken_off
