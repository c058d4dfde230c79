use Rattle.std.proofs.Common.{◌≡◌, ◌<◌, ◌^◌, Some, length}
use Rattle.kmip_shape.specs.Writes.{list_len as len_of_list}
use Rattle.kmip_shape.specs.Writes.{vals, plus_len}
use Rattle.kmip_shape.proofs.item_lists.items_len.Given as goal

abbrev pub invariant-loop-rest : goal.invariant-loop-rest
invariant-loop-rest g l = record {
  sum : plus_len (Some l.sum) (len_of_list (vals g.T.Item.val l.rest) g.T.Item.shape)
      ≡ len_of_list (vals g.T.Item.val l.items) g.T.Item.shape;
  below : l.sum < 2 ^ 32;
}

abbrev pub decreases-loop-rest : goal.decreases-loop-rest
decreases-loop-rest g l = length l.rest
