use Rattle.std.proofs.Common.{◌+◌, ◌*◌, ◌≤◌, take}
use Rattle.kmip_wire.specs.Tree.{trees_of}
use Rattle.kmip_wire.specs.Bytes.{levels_of_all}
use Rattle.kmip_client.proofs.whole_message.+levels.Given as goal

abbrev pub decreases-is_within : goal.decreases-is_within
decreases-is_within l = 2 * l.most

abbrev pub decreases-are_within : goal.decreases-are_within
decreases-are_within l = 2 * l.most + 1

abbrev pub invariant-are_within-loop-tree : goal.invariant-are_within-loop-tree
invariant-are_within-loop-tree l = levels_of_all (trees_of (take l.tree-index l.trees)) ≤ l.most
