use Rattle.std.proofs.Common.{◌==◌, rules, tests}
use Rattle.std.proofs.lemmas.Iterator.{YieldsList-from_slice}
use Rattle.std.proofs.lemmas.Iterator.Search.{find_from_yields_List}
use Rattle.kmip_wire.specs.Parts.{tag_of}
use Rattle.kmip_operations.proofs.objection.first_with.Goals as goal

pub returns : goal.returns
returns c =
    find_from_yields_List (λ item. tag_of item == c.args.tag) _ _ _ c.find.ensures.ran
    (YieldsList-from_slice c.args.items.now cc) (λ x b q k. search (rules, tests))
