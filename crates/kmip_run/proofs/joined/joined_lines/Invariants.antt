use Rattle.std.proofs.Common.{◌≡◌, ◌+◌, ◌≤◌, length}
use Rattle.kmip_run.specs.Script.{lines_of}
use Rattle.kmip_words.specs.Exchange.{settings_of}
use Rattle.kmip_joined.specs.Reports.{IsJoined}
use Rattle.kmip_joined.specs.World.{world_of}
use Rattle.kmip_run.specs.Transcript.{joined}
use Rattle.kmip_run.specs.declared.status.ScriptEnd.TheVariants.{Answered}
use Rattle.kmip_run.proofs.Explained.{SoFar}
use Rattle.kmip_run.proofs.joined.joined_lines.Given as goal

abbrev pub invariant-loop-rest : goal.invariant-loop-rest
invariant-loop-rest l = record {
  settings : settings_of l.client ≡ settings_of l.initial.client;
  ready : IsJoined l.client.link;
  counted : l.number + length l.rest ≤ length l.script;
  so_far : SoFar (joined (settings_of l.initial.client) (lines_of l.script) 1 Answered
      (world_of l.initial.client.link)) l.initial.output l.output
      (joined (settings_of l.initial.client) (lines_of l.rest) (l.number + 1) l.end (world_of l.client.link));
}

abbrev pub decreases-loop-rest : goal.decreases-loop-rest
decreases-loop-rest l = length l.rest
