use Rattle.std.proofs.Common.{◌≡◌, ◌-◌, ◌≤◌, length, take, vec_len, vec_capacity}
use Rattle.kmip_client.proofs.transfer.fill_up.Given as goal

abbrev pub invariant-loop-bytes : goal.invariant-loop-bytes
invariant-loop-bytes l = record {
  within : vec_len l.bytes ≤ l.end;
  kept : take (length l.initial.bytes.items) l.bytes.items ≡ l.initial.bytes.items;
  capacity : vec_capacity l.bytes ≡ vec_capacity l.initial.bytes;
}

abbrev pub decreases-loop-bytes : goal.decreases-loop-bytes
decreases-loop-bytes l = l.end - vec_len l.bytes
