use Rattle.kmip_client.proofs.Tagged.{counted_within, counted_more, counted_all}
use Rattle.kmip_client.proofs.untyped.count.Goals as goal

pub loop-index-preserved : goal.loop-index-preserved
loop-index-preserved c = record {
  within = counted_within c.loop-index.count c.loop-index.index c.has_tag.result c.loop-index.invariant.within;
  counted =
      counted_more c.args.tag c.loop-index.index c.loop-index.count c.args.trees.now c.index-trees-index.result c.has_tag.result c.loop-index-test.true c.index-trees-index.is c.has_tag.ensures c.loop-index.invariant.counted;
}

pub returns : goal.returns
returns c =
    counted_all c.args.tag c.loop-index.index c.loop-index.count c.args.trees.now c.loop-index-test.false c.loop-index.invariant.counted
