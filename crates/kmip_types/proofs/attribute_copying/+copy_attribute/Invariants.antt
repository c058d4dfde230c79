use Rattle.std.proofs.Common.{◌≡◌, ◌+◌, ◌≤◌, ◌++◌, length, map}
use Rattle.kmip_shape.specs.Val.{vals_of}
use Rattle.kmip_types.specs.AttributeValues.{attribute_value_val, weight, vals_weight, list_weight}
use Rattle.kmip_types.proofs.attribute_copying.+copy_attribute.Given as goal

abbrev pub decreases-AttributeValueTryClone::try_clone : goal.decreases-AttributeValueTryClone::try_clone
decreases-AttributeValueTryClone::try_clone l = weight (attribute_value_val l.self.now)

abbrev pub decreases-ValuesTryClone::try_clone : goal.decreases-ValuesTryClone::try_clone
decreases-ValuesTryClone::try_clone l = 1 + list_weight l.self.now

-- what was copied, and what is left
abbrev pub invariant-ValuesTryClone::try_clone-loop-rest : goal.invariant-ValuesTryClone::try_clone-loop-rest
invariant-ValuesTryClone::try_clone-loop-rest l = record {
  whole : l.copy ++ map attribute_value_val l.rest ≡ l.fn.self;
  light : vals_weight (vals_of (map attribute_value_val l.rest)) ≤ list_weight l.fn.self;
}

abbrev pub decreases-ValuesTryClone::try_clone-loop-rest : goal.decreases-ValuesTryClone::try_clone-loop-rest
decreases-ValuesTryClone::try_clone-loop-rest l = length l.rest
