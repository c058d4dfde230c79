use Rattle.std.proofs.Common.{◌≡◌, ◌+◌, ◌-◌, ◌*◌, ◌^◌, ◌≤◌, drop}
use Rattle.kmip_words.specs.Exchange.{settings_of}
use Rattle.kmip_run.specs.Making.{counts_after}
use Rattle.kmip_run.proofs.Makes.{SoMade}
use Rattle.kmip_run.proofs.make.make_calls.Given as goal

abbrev pub invariant-loop-done : goal.invariant-loop-done
invariant-loop-done l = record {
  settings : settings_of l.client ≡ settings_of l.initial.client;
  within : l.done ≤ l.count;
  answers : l.tally.ok + l.tally.errors ≡ l.done;
  bytes : l.tally.taken ≤ l.done * 2 ^ 64;
  so_far : SoMade (counts_after (settings_of l.initial.client) l.count 1
      (drop l.initial.client.link.pos l.initial.client.link.ever))
      l.initial.client.link l.client.link l.tally.ok l.tally.errors l.tally.taken
      (counts_after (settings_of l.initial.client) (l.count - l.done) l.x (drop l.client.link.pos l.client.link.ever));
}

abbrev pub decreases-loop-done : goal.decreases-loop-done
decreases-loop-done l = l.count - l.done
