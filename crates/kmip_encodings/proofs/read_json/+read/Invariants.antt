use Rattle.std.proofs.Common.{◌≡◌, ◌+◌, ◌*◌}
use Rattle.json.specs.Value.{items_view}
use Rattle.kmip_tags.specs.Tags.{ATTRIBUTE_VALUE}
use Rattle.kmip_encodings.specs.Reading.{read_item, items_by}
use Rattle.kmip_encodings.proofs.Items.{onto, left}
use Rattle.kmip_encodings.proofs.read_json.+read.Given as goal

abbrev pub decreases-read_item : goal.decreases-read_item
decreases-read_item l = 5 * l.levels

abbrev pub decreases-read_parts : goal.decreases-read_parts
decreases-read_parts l = 5 * l.levels + 4

abbrev pub decreases-read_node : goal.decreases-read_node
decreases-read_node l = 5 * l.levels + 3

abbrev pub decreases-read_structure : goal.decreases-read_structure
decreases-read_structure l = 5 * l.levels + 2

abbrev pub decreases-read_items : goal.decreases-read_items
decreases-read_items l = 5 * l.levels + 1

abbrev pub invariant-read_items-loop-index : goal.invariant-read_items-loop-index
invariant-read_items-loop-index l =
    items_by (read_item l.levels) 0 ATTRIBUTE_VALUE (items_view l.items.items)
    ≡ onto l.trees (left (read_item l.levels) l.named l.items.items l.index)
