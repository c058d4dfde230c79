use Rattle.std.proofs.Common.{◌≡◌, ◌≤◌, ◌-◌, ◌++◌, length, take, IsTrue}
use Rattle.kmip_link.specs.State.{SinkKeeps}
use Rattle.kmip_words.proofs.streams.write_out.Given as goal

abbrev pub invariant-loop-done : goal.invariant-loop-done
invariant-loop-done g l = record {
  within : l.done ≤ length l.text;
  keeps : SinkKeeps (g.K.Sink.state l.initial.sink) (g.K.Sink.state l.sink);
  written : IsTrue (g.K.Sink.state l.initial.sink).tells
      → (g.K.Sink.state l.sink).sent ≡ (g.K.Sink.state l.initial.sink).sent ++ take l.done l.text;
}

abbrev pub decreases-loop-done : goal.decreases-loop-done
decreases-loop-done g l = length l.text - l.done
