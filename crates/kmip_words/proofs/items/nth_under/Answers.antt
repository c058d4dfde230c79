use Rattle.std.proofs.Common.{◌≡◌, List, [], Option, Some, None, ◌∙◌, ap, sym, refl, rules, tests}
use Rattle.std.proofs.lemmas.Iterator.Consumers.{YieldsList-from_first, YieldsList-from_filter, YieldsList-at, nth_from_yields_List}
use Rattle.std.specs.List.{filter, slice_get}
use Rattle.kmip_wire.specs.Tree.{Tree}
use Rattle.kmip_wire.specs.Items.{item_tree, trees_left}
use Rattle.kmip_wire.specs.Parts.{children_in}
use Rattle.kmip_shape.specs.Shape.{has_tag}
use Rattle.kmip_words.proofs.items.nth_under.Goals as goal

pub returns : goal.returns
returns c =
    let items : children_in (item_tree c.args.parent) ≡ Some (trees_left c.in_ok-children.field-0) =
    sym c.in_ok-children.ensures in
    nth_from_yields_List c.nth.result _ c.args.index c.nth.ensures.ran
    (YieldsList-from_filter _ (has_tag c.args.tag)
    (YieldsList-at c.filter.ensures.source (YieldsList-from_first item_tree trees_left (trees_left c.in_ok-children.field-0) refl))
    c.filter.ensures.closure (λ x b q k. search (rules, tests)))
    ∙ ap (λ (o : Option (List Tree)). slice_get (filter (has_tag c.args.tag)
    (elim o [ None ↦ [] | Some trees ↦ trees ])) c.args.index) (sym items)
