use Rattle.std.proofs.Common.{arith, ◌∙◌}
use Rattle.kmip_encodings.proofs.Written.{items_more, item_smaller, item_fits, ends_more}
use Rattle.kmip_encodings.proofs.write_json.+write.Goals as goal

pub put_structure-put_tree-requires : goal.put_structure-put_tree-requires
put_structure-put_tree-requires t c = (
  omega (
    arith,
    item_smaller c.args.items.now c.loop-item.item-index c.item-item.result c.loop-item-test.true c.item-item.is,
    c.decreases,
  ),
  item_fits c.args.items.now c.loop-item.item-index c.item-item.result c.loop-item.next c.args.at c.loop-item-test.true c.item-item.is c.requires c.loop-item.invariant.ends,
)

pub put_structure-loop-item-preserved : goal.put_structure-loop-item-preserved
put_structure-loop-item-preserved t c = record {
  tokens =
      items_more c.args.items.now c.loop-item.item-index c.item-item.result _ _ c.loop-item.named _ _ _ _ c.loop-item-test.true c.item-item.is c.in_ok-next.ensures.tokens c.in_ok-next.ensures.end c.named_after-named.ensures c.loop-item.invariant.tokens;
  before = c.put_tree.ensures.before ∙ c.loop-item.invariant.before;
  ends =
      ends_more c.args.items.now c.loop-item.item-index c.item-item.result _ _ _ c.loop-item-test.true c.item-item.is c.in_ok-next.ensures.end c.loop-item.invariant.ends;
}
