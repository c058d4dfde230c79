use Rattle.std.proofs.Common.{◌≡◌, ◌==◌, Some, refl, ◌∙◌, ap, sym, rules, tests}
use Rattle.std.proofs.lemmas.Iterator.Consumers.{YieldsList-from_first}
use Rattle.std.proofs.lemmas.Iterator.Search.{find_from_yields_List}
use Rattle.std.specs.List.{find}
use Rattle.std.specs.Option.{option_and_then}
use Rattle.kmip_wire.specs.Items.{item_tree, trees_left}
use Rattle.kmip_wire.specs.Parts.{tag_of, children_in}
use Rattle.kmip_words.proofs.refusal.item_with.Goals as goal

pub returns : goal.returns
returns c =
    let items : children_in (item_tree c.args.parent) ≡ Some (trees_left c.in_ok-children.field-0) =
    sym c.in_ok-children.ensures in
    find_from_yields_List (λ item. tag_of item == c.args.tag) _ _ c.find.result c.find.ensures.ran
    (YieldsList-from_first item_tree trees_left (trees_left c.in_ok-children.field-0) refl)
    (λ x b q k. search (rules, tests))
    ∙ ap (option_and_then (find (λ item. tag_of item == c.args.tag))) (sym items)
