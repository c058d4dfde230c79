use Rattle.std.proofs.Common.{Some, refl, sym, ap, ◌∙◌}
use Rattle.kmip_encodings.specs.Names.{enumeration_name}
use Rattle.kmip_encodings.proofs.TheLines.{name_more, name_here, name_none}
use Rattle.kmip_encodings.proofs.names.enumeration_name.Goals as goal

pub loop-index-init : goal.loop-index-init
unfolding enumeration_name
loop-index-init c = refl

pub loop-index-preserved : goal.loop-index-preserved
loop-index-preserved c =
    name_more c.loop-index.index c.args.tag c.args.number c.loop-index-test.true
    (sym c.is_numbered.ensures ∙ c.if-is_numbered.false) c.loop-index.invariant

pub returns-then-is_numbered : goal.returns-then-is_numbered
returns-then-is_numbered c =
    ap Some c.name_at.ensures
    ∙ name_here c.loop-index.index c.args.tag c.args.number c.loop-index-test.true
    (sym c.is_numbered.ensures ∙ c.if-is_numbered.true) c.loop-index.invariant

pub returns : goal.returns
returns c =
    name_none c.loop-index.index c.args.tag c.args.number c.loop-index-test.false c.loop-index.invariant
