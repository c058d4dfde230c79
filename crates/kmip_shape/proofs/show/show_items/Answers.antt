use Rattle.std.proofs.Common.{drop, ◌∷◌, ◌+◌, ◌∙◌, sym, ap}
use Rattle.std.proofs.lemmas.List.{drop_more, drop_all}
use Rattle.kmip_shape.proofs.Growth.{items_step, items_done}
use Rattle.kmip_shape.proofs.show.show_items.Goals as goal

pub loop-item-init : goal.loop-item-init
loop-item-init g c = λ new h. h

pub loop-item-preserved : goal.loop-item-preserved
loop-item-preserved g c = λ new h.
    c.loop-item.invariant new (items_step g.T.Item.val g.T.Item.shape
    (drop c.loop-item.item-index c.args.items.now) c.item-item.result
    (drop (c.loop-item.item-index + 1) c.args.items.now) c.loop-item.after
    (drop_more c.args.items.now c.loop-item.item-index c.item-item.result c.loop-item-test.true
    ∙ ap (λ x. x ∷ drop (c.loop-item.item-index + 1) c.args.items.now) (sym c.item-item.is))
    c.put_comma.ensures c.show_into.ensures h)

pub returns : goal.returns
returns g c =
    c.loop-item.invariant c.loop-item.out
    (items_done g.T.Item.val g.T.Item.shape
    (drop c.loop-item.item-index c.args.items.now) c.loop-item.after
    (drop_all c.loop-item.item-index c.args.items.now c.loop-item-test.false))
