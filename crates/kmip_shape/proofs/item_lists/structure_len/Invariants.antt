use Rattle.std.proofs.Common.{◌≡◌, ◌<◌, ◌^◌, Some, length}
use Rattle.kmip_shape.specs.Writes.{sum_len, plus_len}
use Rattle.kmip_shape.proofs.item_lists.structure_len.Given as goal

abbrev pub invariant-loop-rest : goal.invariant-loop-rest
invariant-loop-rest l = record {
  sum : plus_len (Some l.sum) (sum_len l.rest) ≡ sum_len l.rows;
  below : l.sum < 2 ^ 32;
}

abbrev pub decreases-loop-rest : goal.decreases-loop-rest
decreases-loop-rest l = length l.rest
