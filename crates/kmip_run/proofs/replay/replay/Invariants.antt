use Rattle.std.proofs.Common.{◌≡◌, ◌+◌, ◌≤◌, ◌<◌, drop, length}
use Rattle.kmip_run.specs.Script.{lines_of}
use Rattle.kmip_words.specs.Exchange.{settings_of}
use Rattle.kmip_run.specs.Transcript.{replay_from}
use Rattle.kmip_run.specs.declared.status.ScriptEnd.TheVariants.{Answered}
use Rattle.kmip_run.proofs.Pieces.{Shows}
use Rattle.kmip_run.proofs.replay.replay.Given as goal

abbrev pub invariant-loop-rest : goal.invariant-loop-rest
invariant-loop-rest g l = record {
  settings : settings_of l.client ≡ settings_of l.initial.client;
  counted : l.number + length l.rest ≤ length l.script;
  short : length l.initial.output < 65536 → length l.output < 65536;
  shows : Shows (replay_from (settings_of l.initial.client) (lines_of l.script) 1 Answered
      (drop l.initial.client.link.pos l.initial.client.link.ever))
      l.initial.client.link l.client.link (g.K.Sink.state l.initial.sink) (g.K.Sink.state l.sink)
      l.initial.output l.output
      (replay_from (settings_of l.initial.client) (lines_of l.rest) (l.number + 1) l.end
      (drop l.client.link.pos l.client.link.ever));
}

abbrev pub decreases-loop-rest : goal.decreases-loop-rest
decreases-loop-rest g l = length l.rest
