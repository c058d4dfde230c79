use Rattle.std.proofs.Common.{◌≡◌, ◌+◌, ◌*◌, ◌≤◌, length, map, false}
use Rattle.kmip_shape.specs.Val.{vals_of}
use Rattle.kmip_shape.specs.Shape.{NoCase}
use Rattle.kmip_shape.specs.Shown.{Growing, Grows, list_in_style}
use Rattle.kmip_types.specs.AttributeValues.{attribute_value, attribute_value_val, weight, vals_weight, list_weight}
use Rattle.kmip_types.proofs.attribute_showing.+show_attribute.Given as goal

abbrev pub decreases-AttributeValueShowItem::show_into : goal.decreases-AttributeValueShowItem::show_into
decreases-AttributeValueShowItem::show_into l = 2 * weight (attribute_value_val l.self.now)

abbrev pub decreases-show_structure : goal.decreases-show_structure
decreases-show_structure l = 2 * list_weight l.values.now + 2

abbrev pub decreases-show_each : goal.decreases-show_each
decreases-show_each l = 2 * list_weight l.values.now + 1

-- what shows the members that are left shows all
abbrev pub invariant-show_each-loop-rest : goal.invariant-show_each-loop-rest
invariant-show_each-loop-rest l = record {
  shows : (new : Growing) → Grows l.out new
      (list_in_style (vals_of (map attribute_value_val l.rest)) NoCase attribute_value l.after)
      → Grows l.fn.out new (list_in_style (vals_of l.fn.values) NoCase attribute_value false);
  light : vals_weight (vals_of (map attribute_value_val l.rest)) ≤ list_weight l.fn.values;
}

abbrev pub decreases-show_each-loop-rest : goal.decreases-show_each-loop-rest
decreases-show_each-loop-rest l = length l.rest
