use Rattle.std.proofs.Common.{◌≡◌, ◌+◌, ◌-◌, ◌*◌, ◌++◌, take, map, false}
use Rattle.std.specs.List.{flat_map}
use Rattle.kmip_rows.specs.Rows.{field_view}
use Rattle.kmip_payloads.specs.Items.{item_view}
use Rattle.kmip_payloads.specs.Payload.{build, field_trees, tag_trees}
use Rattle.kmip_payloads.proofs.build.+build.Given as goal

abbrev pub decreases-push_fields : goal.decreases-push_fields
decreases-push_fields l = 5 * l.level

abbrev pub decreases-push_structure : goal.decreases-push_structure
decreases-push_structure l = 5 * l.level + 1

abbrev pub decreases-push_tag : goal.decreases-push_tag
decreases-push_tag l = 5 * l.level + 2

abbrev pub decreases-push_object : goal.decreases-push_object
decreases-push_object l = 5 * l.level + 3

abbrev pub decreases-push_field : goal.decreases-push_field
decreases-push_field l = 5 * l.level + 4

abbrev pub invariant-push_object-loop-tag : goal.invariant-push_object-loop-tag
invariant-push_object-loop-tag l =
    l.out.items ≡ l.initial.out.items ++
    flat_map (tag_trees (build l.level) false (map item_view l.items)) (take l.tag-index l.tag-items)

abbrev pub invariant-push_fields-loop-field : goal.invariant-push_fields-loop-field
invariant-push_fields-loop-field l =
    l.out.items ≡ l.initial.out.items ++
    flat_map (field_trees (build (l.level - 1)) (map item_view l.items)) (map field_view (take l.field-index l.fields))
