use Rattle.std.proofs.Common.{◌==◌, length, rules, tests, ◌∙◌}
use Rattle.std.proofs.lemmas.Iterator.{YieldsList-from_slice}
use Rattle.std.proofs.lemmas.Iterator.Search.{any_from_yields_List}
use Rattle.kmip_request_words.proofs.Texts.{list_any_map}
use Rattle.kmip_request_words.proofs.words.has_empty_part.Goals as goal

pub returns : goal.returns
returns c =
    any_from_yields_List (λ part. length part.now == 0) _ _ c.any.result c.any.ensures.ran
    (YieldsList-from_slice c.args.parts.now cc) (λ x b q k. search (rules, tests))
    ∙ list_any_map c.args.parts.now
