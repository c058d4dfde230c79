use Rattle.std.proofs.Common.{◌-◌, ◌++◌, List, map, sym, ap, ◌∙◌, append-nil, arith}
use Rattle.std.specs.List.{flat_map}
use Rattle.std.proofs.lemmas.List.{take_all}
use Rattle.kmip_rows.specs.declared.rows.Place.{Place}
use Rattle.kmip_rows.specs.declared.rows.FieldRow.{FieldRow}
use Rattle.kmip_rows.specs.Rows.{field_view}
use Rattle.kmip_payloads.specs.Items.{item_view}
use Rattle.kmip_payloads.specs.Lacks.{all_lacks, field_lacks}
use Rattle.kmip_payloads.proofs.Levels.{lacks_none, lacks_some}
use Rattle.kmip_payloads.proofs.lacking.+lacks.Goals as goal

pub push_all_lacks-returns-then-level-eq0 : goal.push_all_lacks-returns-then-level-eq0
push_all_lacks-returns-then-level-eq0 t c =
    let fields = map field_view c.args.fields.now in
    let items = map item_view c.args.items.now in
    let old : List Place = c.args.out.now.items in
    sym (ap (λ (its : List Place). old ++ its) (lacks_none c.args.level fields items c.if-level-eq0.true)
    ∙ append-nil old)

pub push_all_lacks-returns : goal.push_all_lacks-returns
push_all_lacks-returns t c =
    let items = map item_view c.args.items.now in
    let old : List Place = c.args.out.now.items in
    let rows : List FieldRow = c.args.fields.now in
    c.loop-field.invariant
    ∙ ap (λ (its : List FieldRow).
    old ++ flat_map (field_lacks (all_lacks (c.args.level - 1)) items) (map field_view its))
    (take_all c.loop-field.field-index rows (omega arith))
    ∙ ap (λ (its : List Place). old ++ its)
    (lacks_some c.args.level (map field_view rows) items (λ e. omega arith))
