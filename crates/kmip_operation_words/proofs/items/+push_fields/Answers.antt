use Rattle.kmip_operation_words.specs.Items.{items_where}
use Rattle.kmip_operation_words.specs.Rows.{field_view}
use Rattle.kmip_request_words.proofs.Rests.{rest_is}
use Rattle.kmip_operation_words.proofs.Additions.{all_added}
use Rattle.kmip_operation_words.proofs.items.+push_fields.Goals as goal

pub returns-else-not-branch : goal.returns-else-not-branch
returns-else-not-branch t c =
    all_added c.push_fields.result field_view
    (items_where c.args.are_parameters (record { all = c.args.words.now; behind = c.args.behind.now }))
    c.args.fields.now _ c.in_ok-push_where-in-len1-up.field-0 c.args.out.now.items
    c.push_where.new.out.items c.push_fields.new.out.items c.in-len1-up.len_at_least
    c.if-not-branch.false c.in_ok-push_where-in-len1-up.ensures
    (rw (rest_is 1 c.args.fields.now) at c.push_fields.ensures)
