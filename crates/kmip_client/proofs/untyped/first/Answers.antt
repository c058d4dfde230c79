use Rattle.std.proofs.Common.{◌∙◌, sym}
use Rattle.kmip_client.proofs.Tagged.{none_more, first_found, none_found}
use Rattle.kmip_client.proofs.untyped.first.Goals as goal

pub loop-index-preserved : goal.loop-index-preserved
loop-index-preserved c =
    none_more c.args.tag c.loop-index.index c.args.trees.now c.index-trees-index.result c.loop-index-test.true c.index-trees-index.is (sym c.has_tag.ensures ∙ c.if-has_tag.false) c.loop-index.invariant

pub returns-then-has_tag : goal.returns-then-has_tag
returns-then-has_tag c =
    first_found c.args.tag c.loop-index.index c.args.trees.now c.index-trees-index.result c.loop-index-test.true c.index-trees-index.is (sym c.has_tag.ensures ∙ c.if-has_tag.true) c.loop-index.invariant

pub returns : goal.returns
returns c = none_found c.args.tag c.loop-index.index c.args.trees.now c.loop-index-test.false c.loop-index.invariant
