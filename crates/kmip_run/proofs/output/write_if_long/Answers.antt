use Rattle.kmip_run.proofs.Pieces.{all_moved, none_moved}
use Rattle.kmip_run.proofs.output.write_if_long.Goals as goal

pub returns-then-as_str-lt-MAX_KEPT-clause-moved : goal.returns-then-as_str-lt-MAX_KEPT-clause-moved
returns-then-as_str-lt-MAX_KEPT-clause-moved g c = none_moved (g.K.Sink.state c.args.sink.now) c.args.text.now

pub returns-in-Ok-clause-moved : goal.returns-in-Ok-clause-moved
returns-in-Ok-clause-moved g c =
    all_moved (g.K.Sink.state c.args.sink.now) (g.K.Sink.state c.write_out.new.sink) c.args.text.now
    c.clear.new.self c.clear.ensures (rw (c.as_bytes.ensures.value, c.as_str-2.ensures.bytes) at c.in-Ok.ensures.ok)
