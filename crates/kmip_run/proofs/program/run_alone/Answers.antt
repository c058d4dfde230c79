use Rattle.kmip_run.proofs.Whole.{alone_ended}
use Rattle.kmip_run.proofs.program.run_alone.Goals as goal

pub returns : goal.returns
returns g c = λ source.
    alone_ended c.args.command source (g.K.Sink.state c.args.sink.now) (g.K.Sink.state c.carry_out.new.sink)
    c.args.link.now c.carry_out.new.link c.carry_out.result c.requires.unread c.carry_out.ensures.kept
    c.carry_out.ensures.ends
