use Rattle.std.proofs.Common.{◌∙◌, ap, sym, option_map}
use Rattle.kmip_wire.specs.Items.{item_tree}
use Rattle.kmip_client.specs.Untyped.{all_under}
use Rattle.kmip_words.proofs.Tagged.{sole_first, no_sole}
use Rattle.kmip_words.proofs.items.one_under.Goals as goal

pub returns-in-Some : goal.returns-in-Some
returns-in-Some c =
    no_sole (all_under c.args.tag (item_tree c.args.parent)) (item_tree c.in-Some.field-0)
    (sym c.nth_under.ensures ∙ ap (option_map item_tree) c.in-Some.is)

pub returns-in-None : goal.returns-in-None
returns-in-None c =
    c.nth_under-in-None.ensures
    ∙ sole_first (all_under c.args.tag (item_tree c.args.parent))
    (sym c.nth_under.ensures ∙ ap (option_map item_tree) c.in-None.is)
