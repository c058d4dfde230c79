use Rattle.std.proofs.Common.{◌≡◌, ◌<◌, ◌^◌, Some, length, map}
use Rattle.kmip_shape.specs.Val.{vals_of}
use Rattle.kmip_shape.specs.Writes.{plains_len, plus_len}
use Rattle.kmip_types.specs.AttributeValues.{attribute_values, attribute_value_val}
use Rattle.kmip_types.proofs.attribute_writing.children_len.Given as goal

abbrev pub invariant-loop-rest : goal.invariant-loop-rest
invariant-loop-rest l = record {
  sum : plus_len (Some l.sum) (plains_len attribute_values
      (vals_of (map attribute_value_val l.rest)))
      ≡ plains_len attribute_values (vals_of (map attribute_value_val l.items));
  below : l.sum < 2 ^ 32;
}

abbrev pub decreases-loop-rest : goal.decreases-loop-rest
decreases-loop-rest l = length l.rest
