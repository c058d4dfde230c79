use Rattle.std.proofs.Common.{◌≡◌, ◌+◌, ◌≤◌, length, map}
use Rattle.kmip_shape.specs.Val.{vals_of}
use Rattle.kmip_shape.specs.Shape.{NoCase}
use Rattle.kmip_shape.specs.Fits.{vals_fit}
use Rattle.kmip_types.specs.AttributeValues.{attribute_value}
use Rattle.kmip_types.specs.AttributeValues.{attribute_value_val, weight, vals_weight, list_weight}
use Rattle.kmip_types.proofs.attribute_value.+fits_attribute.Given as goal

abbrev pub decreases-AttributeValueItem::fits : goal.decreases-AttributeValueItem::fits
decreases-AttributeValueItem::fits l = weight (attribute_value_val l.self.now)

abbrev pub decreases-Values::fits : goal.decreases-Values::fits
decreases-Values::fits l = 1 + list_weight l.self.now

abbrev pub invariant-Values::fits-loop-rest : goal.invariant-Values::fits-loop-rest
invariant-Values::fits-loop-rest l = record {
  fits : vals_fit (vals_of (map attribute_value_val l.rest)) NoCase attribute_value
      → vals_fit (vals_of l.fn.self) NoCase attribute_value;
  light : vals_weight (vals_of (map attribute_value_val l.rest)) ≤ list_weight l.fn.self;
}

abbrev pub decreases-Values::fits-loop-rest : goal.decreases-Values::fits-loop-rest
decreases-Values::fits-loop-rest l = length l.rest
