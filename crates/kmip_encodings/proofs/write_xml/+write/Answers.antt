use Rattle.std.proofs.Common.{arith}
use Rattle.kmip_encodings.proofs.Written.{item_smaller}
use Rattle.kmip_encodings.proofs.Elements.{elements_more, elements_done, structure_written, ok_then}
use Rattle.kmip_encodings.proofs.write_xml.+write.Goals as goal

pub put_structure-put_tree-requires : goal.put_structure-put_tree-requires
put_structure-put_tree-requires t c = (
  omega (
    arith,
    item_smaller c.args.items.now c.loop-item.item-index c.item-item.result c.loop-item-test.true c.item-item.is,
    c.decreases,
  ),
  tt,
)

pub put_structure-loop-item-preserved : goal.put_structure-loop-item-preserved
put_structure-loop-item-preserved t c =
    elements_more c.args.items.now c.loop-item.item-index c.item-item.result c.loop-item.named _ _ _ _ c.loop-item-test.true c.item-item.is c.in_ok-put_tree.ensures c.named_after-named.ensures c.loop-item.invariant

pub put_structure-returns : goal.put_structure-returns
put_structure-returns t c =
    let filled =
    elements_done c.args.items.now c.loop-item.item-index c.loop-item.named c.loop-item.out _ c.loop-item-test.false c.loop-item.invariant in
    ok_then c.put_end.result c.put_end.ensures
    (λ e.
    structure_written c.args.tag c.args.items.now c.args.out.now c.put_start.new.out c.push_str.new.self c.loop-item.out c.put_end.new.out c.in_ok-put_start.ensures c.in_ok-push_str.ensures filled e)
