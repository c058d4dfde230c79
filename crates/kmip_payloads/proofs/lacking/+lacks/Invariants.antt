use Rattle.std.proofs.Common.{◌≡◌, ◌+◌, ◌-◌, ◌*◌, ◌++◌, take, map, false}
use Rattle.std.specs.List.{flat_map}
use Rattle.kmip_rows.specs.Rows.{field_view}
use Rattle.kmip_payloads.specs.Items.{item_view}
use Rattle.kmip_payloads.specs.Lacks.{all_lacks, field_lacks, tag_lacks}
use Rattle.kmip_payloads.proofs.lacking.+lacks.Given as goal

abbrev pub decreases-push_all_lacks : goal.decreases-push_all_lacks
decreases-push_all_lacks l = 5 * l.level

abbrev pub decreases-push_structure_lacks : goal.decreases-push_structure_lacks
decreases-push_structure_lacks l = 5 * l.level + 1

abbrev pub decreases-push_tag_lacks : goal.decreases-push_tag_lacks
decreases-push_tag_lacks l = 5 * l.level + 2

abbrev pub decreases-push_object_lacks : goal.decreases-push_object_lacks
decreases-push_object_lacks l = 5 * l.level + 3

abbrev pub decreases-push_field_lacks : goal.decreases-push_field_lacks
decreases-push_field_lacks l = 5 * l.level + 4

abbrev pub invariant-push_object_lacks-loop-tag : goal.invariant-push_object_lacks-loop-tag
invariant-push_object_lacks-loop-tag l =
    l.out.items ≡ l.initial.out.items ++
    flat_map (tag_lacks (all_lacks l.level) false (map item_view l.items)) (take l.tag-index l.tag-items)

abbrev pub invariant-push_all_lacks-loop-field : goal.invariant-push_all_lacks-loop-field
invariant-push_all_lacks-loop-field l =
    l.out.items ≡ l.initial.out.items ++
    flat_map (field_lacks (all_lacks (l.level - 1)) (map item_view l.items))
    (map field_view (take l.field-index l.fields))
