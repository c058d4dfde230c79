use Rattle.std.proofs.Common.{◌≡◌, ◌+◌, ◌≤◌, ◌++◌, length, map}
use Rattle.kmip_shape.specs.Val.{vals_of}
use Rattle.kmip_shape.specs.Writes.{plains_form, plains_size, plains_text}
use Rattle.kmip_types.specs.AttributeValues.{attribute_values, attribute_value_val}
use Rattle.kmip_types.proofs.attribute_writing.write_children.Given as goal

abbrev pub invariant-loop-rest : goal.invariant-loop-rest
invariant-loop-rest l = record {
  form : plains_form attribute_values (vals_of (map attribute_value_val l.rest));
  room : plains_size attribute_values (vals_of (map attribute_value_val l.rest)) ≤ l.out.spare;
  text : l.out.bytes ++ plains_text attribute_values (vals_of (map attribute_value_val l.rest))
      ≡ l.fn.out.bytes ++ plains_text attribute_values (vals_of (map attribute_value_val l.items));
  spare : l.out.spare + plains_size attribute_values (vals_of (map attribute_value_val l.items))
      ≡ l.fn.out.spare + plains_size attribute_values (vals_of (map attribute_value_val l.rest));
}

abbrev pub decreases-loop-rest : goal.decreases-loop-rest
decreases-loop-rest l = length l.rest
