use Rattle.std.proofs.Common.{Bool, subst}
use Rattle.kmip_wire.specs.declared.kind.Kind.TheVariants.{BigInteger}
use Rattle.kmip_shape.specs.Val.{One, Bytes}
use Rattle.kmip_shape.specs.Shape.{NoCase, Scalar}
use Rattle.kmip_shape.specs.Shown.{Grows, row_in_style}
use Rattle.kmip_shape.proofs.Growth.{grown}
use Rattle.kmip_shape.proofs.big.BigOneShowRow.show.Goals as goal

pub returns-clause-text : goal.returns-clause-text
returns-clause-text g c = λ a e.
    subst (λ (b : Bool). Grows c.args.out.now c.show_into.new.out
    (row_in_style (One (Bytes c.args.lent.now)) NoCase c.args.name.now (Scalar BigInteger) b)) e
    (grown c.put_comma.ensures (grown c.put_word.ensures (grown c.put_name_mark.ensures c.show_into.ensures)))
