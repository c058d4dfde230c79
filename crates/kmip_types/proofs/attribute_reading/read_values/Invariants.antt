use Rattle.std.proofs.Common.{◌≡◌, map}
use Rattle.std.specs.Option.{option_and_then}
use Rattle.kmip_wire.specs.Parts.{children_in}
use Rattle.kmip_wire.specs.Items.{item_tree, trees_left}
use Rattle.kmip_shape.specs.Reads.{each, read_plain}
use Rattle.kmip_shape.specs.Resume.{values_with}
use Rattle.kmip_types.specs.AttributeValues.{attribute_values, attribute_value_val}
use Rattle.kmip_types.proofs.attribute_reading.read_values.Given as goal

-- the members of the item are those read, and then those of the children that are left
abbrev pub invariant-loop-child : goal.invariant-loop-child
invariant-loop-child l =
    option_and_then (each (read_plain attribute_values)) (children_in (item_tree l.item))
    ≡ values_with (read_plain attribute_values) (map attribute_value_val l.items.items) (trees_left l.child-iterator)
