use Rattle.std.proofs.Common.{Some, refl, sym, ap, ◌∙◌}
use Rattle.kmip_encodings.specs.Names.{enumeration_number}
use Rattle.kmip_encodings.proofs.TheLines.{number_more, number_here, number_none}
use Rattle.kmip_encodings.proofs.names.enumeration_number.Goals as goal

pub loop-index-init : goal.loop-index-init
unfolding enumeration_number
loop-index-init c = refl

pub loop-index-preserved : goal.loop-index-preserved
loop-index-preserved c =
    number_more c.loop-index.index c.args.tag c.args.name.now c.loop-index-test.true
    (sym c.is_named.ensures ∙ c.if-is_named.false) c.loop-index.invariant

pub returns-then-is_named : goal.returns-then-is_named
returns-then-is_named c =
    ap Some c.number_at.ensures
    ∙ number_here c.loop-index.index c.args.tag c.args.name.now c.loop-index-test.true
    (sym c.is_named.ensures ∙ c.if-is_named.true) c.loop-index.invariant

pub returns : goal.returns
returns c =
    number_none c.loop-index.index c.args.tag c.args.name.now c.loop-index-test.false c.loop-index.invariant
