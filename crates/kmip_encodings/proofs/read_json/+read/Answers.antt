use Rattle.std.proofs.Common.{Some, sym, ap, subst, ◌∙◌}
use Rattle.json.specs.Value.{value_view, items_view}
use Rattle.kmip_tags.specs.Tags.{ATTRIBUTE_VALUE}
use Rattle.kmip_wire.specs.Tree.{Tree}
use Rattle.kmip_encodings.specs.Reading.{Read, Fails, Reads, read_item, items_by}
use Rattle.kmip_encodings.proofs.Items.{read_zero, opened, onto, onto_none, left}
use Rattle.kmip_encodings.proofs.read_json.+read.Goals as goal

pub read_item-returns-then-levels-eq0 : goal.read_item-returns-then-levels-eq0
read_item-returns-then-levels-eq0 t c =
    subst (λ (r : Read Tree). Fails c.wants.result r)
    (sym (read_zero c.args.levels c.args.named (value_view c.args.value.now) c.if-levels-eq0.true))
    c.wants.ensures

pub read_item-returns-in_default : goal.read_item-returns-in_default
read_item-returns-in_default t c =
    subst (λ (r : Read Tree). Fails c.wants-in_default.result r)
    (sym (opened c.args.levels c.args.named (value_view c.args.value.now) _ c.if-levels-eq0.false
    (sym c.in_default.is ∙ c.known_members.ensures))) c.wants-in_default.ensures

pub read_item-returns-then-known : goal.read_item-returns-then-known
read_item-returns-then-known t c =
    subst (λ (r : Read Tree). Reads c.read_parts.result r)
    (sym (opened c.args.levels c.args.named (value_view c.args.value.now) _ c.if-levels-eq0.false
    (ap Some (sym c.if-known.true) ∙ sym c.in-Some.is ∙ c.known_members.ensures)))
    c.read_parts.ensures

pub read_item-returns-else-known : goal.read_item-returns-else-known
read_item-returns-else-known t c =
    subst (λ (r : Read Tree). Fails c.wants-else-known.result r)
    (sym (opened c.args.levels c.args.named (value_view c.args.value.now) _ c.if-levels-eq0.false
    (ap Some (sym c.if-known.false) ∙ sym c.in-Some.is ∙ c.known_members.ensures)))
    c.wants-else-known.ensures

pub read_items-loop-index-init : goal.read_items-loop-index-init
read_items-loop-index-init t c =
    let read = items_by (read_item c.args.levels) 0 ATTRIBUTE_VALUE (items_view c.args.items.now.items) in
    sym (ap (λ n. onto c.new-trees.result (left (read_item c.args.levels) n c.args.items.now.items 0)) c.unnamed-named.ensures
    ∙ ap (λ ts. onto ts read) c.new-trees.ensures ∙ onto_none read)
