use Rattle.std.proofs.Common.{◌-◌, ◌++◌, List, map, sym, ap, ◌∙◌, append-nil, arith}
use Rattle.std.specs.List.{flat_map}
use Rattle.std.proofs.lemmas.List.{take_all}
use Rattle.kmip_wire.specs.Tree.{Tree}
use Rattle.kmip_rows.specs.declared.rows.FieldRow.{FieldRow}
use Rattle.kmip_rows.specs.Rows.{field_view, structure_view}
use Rattle.kmip_payloads.specs.Items.{item_view}
use Rattle.kmip_payloads.specs.Payload.{build, field_trees}
use Rattle.kmip_payloads.proofs.Levels.{build_none, build_some}
use Rattle.kmip_payloads.proofs.Tags.{small_tag}
use Rattle.kmip_payloads.proofs.build.+build.Goals as goal

pub push_tag-push_structure-requires : goal.push_tag-push_structure-requires
push_tag-push_structure-requires t c = (
  omega (arith, c.decreases),
  small_tag c.args.tag (structure_view c.in-Some.row.now) (sym c.in-Some.ensures),
)

pub push_fields-returns-then-level-eq0 : goal.push_fields-returns-then-level-eq0
push_fields-returns-then-level-eq0 t c =
    let fields = map field_view c.args.fields.now in
    let items = map item_view c.args.items.now in
    let old : List Tree = c.args.out.now.items in
    sym (ap (λ (its : List Tree). old ++ its) (build_none c.args.level fields items c.if-level-eq0.true)
    ∙ append-nil old)

pub push_fields-returns : goal.push_fields-returns
push_fields-returns t c =
    let items = map item_view c.args.items.now in
    let old : List Tree = c.args.out.now.items in
    let rows : List FieldRow = c.args.fields.now in
    c.loop-field.invariant
    ∙ ap (λ (its : List FieldRow). old ++ flat_map (field_trees (build (c.args.level - 1)) items) (map field_view its))
    (take_all c.loop-field.field-index rows (omega arith))
    ∙ ap (λ (its : List Tree). old ++ its)
    (build_some c.args.level (map field_view rows) items (λ e. omega arith))
