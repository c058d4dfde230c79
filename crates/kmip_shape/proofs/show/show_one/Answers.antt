use Rattle.std.proofs.Common.{Bool, subst}
use Rattle.kmip_shape.specs.Val.{One}
use Rattle.kmip_shape.specs.Shape.{NoCase}
use Rattle.kmip_shape.specs.Shown.{Grows, row_in_style}
use Rattle.kmip_shape.proofs.Growth.{grown}
use Rattle.kmip_shape.proofs.show.show_one.Goals as goal

pub returns-clause-text : goal.returns-clause-text
returns-clause-text g c = λ a e.
    subst (λ (b : Bool). Grows c.args.out.now c.show_into.new.out
    (row_in_style (One (g.T.Item.val c.args.item.now)) NoCase c.args.name.now g.T.Item.shape b))
    e
    (grown c.put_comma.ensures (grown c.put_word.ensures (grown c.put_name_mark.ensures c.show_into.ensures)))
