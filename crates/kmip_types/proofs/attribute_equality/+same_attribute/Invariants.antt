use Rattle.std.proofs.Common.{◌≡◌, ◌+◌, ◌≤◌, length, map}
use Rattle.kmip_shape.specs.Val.{vals_of}
use Rattle.kmip_types.specs.AttributeValues.{attribute_value_val, weight, vals_weight, list_weight}
use Rattle.kmip_types.specs.SameValues.{same_vals, same_members}
use Rattle.kmip_types.proofs.attribute_equality.+same_attribute.Given as goal

abbrev pub decreases-are_same : goal.decreases-are_same
decreases-are_same l = weight (attribute_value_val l.left.now)

abbrev pub decreases-are_same_members : goal.decreases-are_same_members
decreases-are_same_members l = 1 + list_weight l.left.now

-- what is left tells whether all are equal
abbrev pub invariant-are_same_members-loop-lefts : goal.invariant-are_same_members-loop-lefts
invariant-are_same_members-loop-lefts l = record {
  same : same_vals (vals_of (map attribute_value_val l.lefts))
      (vals_of (map attribute_value_val l.rights)) ≡ same_members l.fn.left l.fn.right;
  light : vals_weight (vals_of (map attribute_value_val l.lefts)) ≤ list_weight l.fn.left;
}

abbrev pub decreases-are_same_members-loop-lefts : goal.decreases-are_same_members-loop-lefts
decreases-are_same_members-loop-lefts l = length l.lefts
