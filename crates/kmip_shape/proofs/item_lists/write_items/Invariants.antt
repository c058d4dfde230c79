use Rattle.std.proofs.Common.{◌≡◌, ◌+◌, ◌≤◌, ◌++◌, length}
use Rattle.kmip_shape.specs.Writes.{list_form, list_size, list_text, vals}
use Rattle.kmip_shape.proofs.item_lists.write_items.Given as goal

abbrev pub invariant-loop-rest : goal.invariant-loop-rest
invariant-loop-rest g l = record {
  form : list_form (vals g.T.Item.val l.rest) g.T.Item.shape;
  room : list_size (vals g.T.Item.val l.rest) g.T.Item.shape ≤ l.out.spare;
  text : l.out.bytes ++ list_text (vals g.T.Item.val l.rest) g.T.Item.shape l.tag
      ≡ l.fn.out.bytes ++ list_text (vals g.T.Item.val l.items) g.T.Item.shape l.tag;
  spare : l.out.spare + list_size (vals g.T.Item.val l.items) g.T.Item.shape
      ≡ l.fn.out.spare + list_size (vals g.T.Item.val l.rest) g.T.Item.shape;
}

abbrev pub decreases-loop-rest : goal.decreases-loop-rest
decreases-loop-rest g l = length l.rest
