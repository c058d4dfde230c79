use Rattle.std.proofs.Common.{◌≡◌, ◌+◌, ◌-◌, ◌≤◌, ◌++◌, length, take, IsTrue, vec_len, vec_capacity, max}
use Rattle.kmip_link.specs.State.{Keeps, left}
use Rattle.kmip_client.specs.Transfer.{Takes}
use Rattle.kmip_client.proofs.transfer.read_more.Given as goal

abbrev pub invariant-loop-done : goal.invariant-loop-done
invariant-loop-done g l = record {
  within : l.done ≤ l.count;
  grown : vec_len l.taken ≡ vec_len l.initial.taken + l.done;
  ahead : vec_capacity l.taken ≤ max (vec_capacity l.initial.taken) (vec_len l.taken + 65536);
  kept : take (length l.initial.taken.items) l.taken.items ≡ l.initial.taken.items;
  keeps : Keeps (g.L.Link.state l.initial.link) (g.L.Link.state l.link);
  takes : IsTrue (g.L.Link.state l.initial.link).tells
      → Takes (g.L.Link.state l.initial.link) (g.L.Link.state l.link) l.done;
  bytes : IsTrue (g.L.Link.state l.initial.link).tells
      → l.taken.items ≡ l.initial.taken.items ++ take l.done (left (g.L.Link.state l.initial.link));
}

abbrev pub decreases-loop-done : goal.decreases-loop-done
decreases-loop-done g l = l.count - l.done
