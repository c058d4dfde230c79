use Rattle.std.proofs.Common.{arith}
use Rattle.kmip_words.proofs.Moves.{sink_keeps_on, text_on}
use Rattle.kmip_words.proofs.streams.write_out.Goals as goal

pub loop-done-preserved : goal.loop-done-preserved
loop-done-preserved g c =
    let i = c.loop-done.invariant in
    record {
      within = omega (arith, c.in_ok-done.ensures.bound);
      keeps = sink_keeps_on i.keeps c.write.ensures.keeps;
      written = λ tells. rw (c.in_ok-done.ensures.moved (rw i.keeps.tells tells), i.written tells)
          (text_on
          (g.K.Sink.state c.args.sink.now).sent c.loop-done.done c.in_ok-done.field-0 c.args.text.now);
    }
