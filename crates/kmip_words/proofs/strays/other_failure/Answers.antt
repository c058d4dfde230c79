use Rattle.std.proofs.Common.{◌≡◌, ◌∙◌, ap, sym, Some, option_map}
use Rattle.kmip_wire.specs.Items.{item_tree}
use Rattle.kmip_wire.specs.Reading.{item_of}
use Rattle.kmip_client.specs.Check.{mismatch_text}
use Rattle.kmip_words.specs.Strays.{operation_text}
use Rattle.kmip_words.proofs.Foreign.{foreign}
use Rattle.kmip_words.proofs.strays.other_failure.Goals as goal

pub returns-in_ok-mismatch : goal.returns-in_ok-mismatch
returns-in_ok-mismatch c =
    ap Some (c.in_ok-mismatch.ensures
    ∙ ap (λ n. mismatch_text c.args.operation (operation_text n)) c.number_under-number.ensures)
    ∙ foreign c.args.operation (item_of 64 c.args.response.now)
    (item_tree c.in-Some.message) (item_tree c.in-Some-sole_item.item)
    (sym c.root.ensures.tree ∙ ap (option_map item_tree) c.in-Some.is)
    (sym c.sole_item.ensures ∙ ap (option_map item_tree) c.in-Some-sole_item.is)
    (sym c.reports_failure.ensures ∙ c.if-reports_failure.true)
    (sym c.is_item_of.ensures ∙ c.if-not-is_item_of.true)
