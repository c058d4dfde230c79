use Rattle.std.proofs.Common.{rules, ◌∙◌}
use Rattle.kmip_wire.specs.Items.{item_tree}
use Rattle.kmip_shape.specs.Resume.{outer_of}
use Rattle.kmip_types.proofs.Differs.{unnamed}
use Rattle.kmip_types.proofs.attribute_reading.AttributeValueReadItem.read.Goals as goal

pub returns-in_err-read_by_type-in-Some-clause-unread :
    goal.returns-in_err-read_by_type-in-Some-clause-unread
returns-in_err-read_by_type-in-Some-clause-unread c = λ e.
    unnamed (outer_of c.args.outer) c.in-Some.field-0.now (item_tree c.args.item) (search rules) (search rules)
    ∙ c.read_by_type-in-Some.ensures.unread (search rules)

pub returns-in_ok-read_by_type-in-Some-clause-ok :
    goal.returns-in_ok-read_by_type-in-Some-clause-ok
returns-in_ok-read_by_type-in-Some-clause-ok c =
    unnamed (outer_of c.args.outer) c.in-Some.field-0.now (item_tree c.args.item) (search rules) (search rules)
    ∙ c.in_ok-read_by_type-in-Some.ensures.ok
