use Rattle.kmip_der.specs.Curve.{curve_view}
use Rattle.kmip_key_files.proofs.Short.{named_short}
use Rattle.kmip_key_files.proofs.writing.curve_of.Goals as goal

pub returns-clause-named : goal.returns-clause-named
returns-clause-named c =
    named_short c.args.number c.curve_numbered.result (λ curve. curve_view curve.now) c.curve_numbered.ensures
