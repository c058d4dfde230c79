use Rattle.std.proofs.Common.{sym, ap, ◌∙◌, arith}
use Rattle.kmip_pem.specs.Pem.{before_digits, digits_in}
use Rattle.kmip_pem.proofs.Loops.{no_lines, digits_absent}
use Rattle.kmip_pem.proofs.blocks.digits_in.Goals as goal

pub returns : goal.returns
returns c =
    let none = no_lines c.loop-rest.rest.now (omega arith) in
    sym (digits_absent c.loop-rest.digits)
    ∙ (ap (λ lines. before_digits c.loop-rest.digits (digits_in c.args.label.now lines)) (sym none)
    ∙ c.loop-rest.invariant)
