use Rattle.std.proofs.Common.{Bool, false, List, subst}
use Rattle.kmip_shape.specs.Val.{Many}
use Rattle.kmip_shape.specs.Shape.{NoCase}
use Rattle.kmip_shape.specs.Writes.{vals}
use Rattle.kmip_shape.specs.Shown.{Grows, row_in_style, list_in_style}
use Rattle.kmip_shape.proofs.Growth.{grown}
use Rattle.kmip_shape.proofs.show.show_list.Goals as goal

pub returns-clause-text : goal.returns-clause-text
returns-clause-text g c = λ a e.
    let each : Grows c.put.new.self c.show_items.new.out
    (list_in_style (vals g.T.Item.val c.args.items.now) NoCase g.T.Item.shape false) =
    subst (λ (xs : List g.row.T.Denot).
    Grows c.put.new.self c.show_items.new.out
    (list_in_style (vals g.T.Item.val xs) NoCase g.T.Item.shape false))
    c.as_slice.ensures c.show_items.ensures in
    subst (λ (b : Bool). Grows c.args.out.now c.put-2.new.self
    (row_in_style (Many (vals g.T.Item.val c.args.items.now))
    NoCase c.args.name.now g.T.Item.shape b)) e
    (grown c.put_comma.ensures (grown c.put_word.ensures
    (grown c.put_name_mark.ensures (grown c.put.ensures (grown each c.put-2.ensures)))))
