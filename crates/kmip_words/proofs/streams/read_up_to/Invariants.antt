use Rattle.std.proofs.Common.{◌≡◌, ◌+◌, ◌-◌, ◌≤◌, ◌++◌, length, take, min, max, IsTrue, vec_len, vec_capacity}
use Rattle.kmip_link.specs.State.{SourceKeeps, source_left}
use Rattle.kmip_words.specs.Streams.{Gives}
use Rattle.kmip_words.proofs.streams.read_up_to.Given as goal

abbrev pub invariant-loop-done : goal.invariant-loop-done
invariant-loop-done g l = record {
  within : l.done ≤ l.count;
  room : vec_len l.piece ≡ min l.count 65536;
  grown : vec_len l.script ≡ vec_len l.initial.script + l.done;
  ahead : vec_capacity l.script ≤ max (vec_capacity l.initial.script) (vec_len l.script);
  kept : take (length l.initial.script.items) l.script.items ≡ l.initial.script.items;
  keeps : SourceKeeps (g.S.Source.state l.initial.source) (g.S.Source.state l.source);
  gives : IsTrue (g.S.Source.state l.initial.source).tells
      → Gives (g.S.Source.state l.initial.source) (g.S.Source.state l.source) l.done;
  bytes : IsTrue (g.S.Source.state l.initial.source).tells
      → l.script.items ≡ l.initial.script.items
      ++ take l.done (source_left (g.S.Source.state l.initial.source));
}

abbrev pub decreases-loop-done : goal.decreases-loop-done
decreases-loop-done g l = l.count - l.done
