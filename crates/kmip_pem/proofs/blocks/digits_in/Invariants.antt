use Rattle.std.proofs.Common.{◌≡◌, length}
use Rattle.kmip_pem.specs.Lines.{lines_in}
use Rattle.kmip_pem.specs.Pem.{before_digits, digits_in}
use Rattle.kmip_pem.proofs.blocks.digits_in.Given as goal

abbrev pub invariant-loop-rest : goal.invariant-loop-rest
invariant-loop-rest l =
    before_digits l.digits (digits_in l.label (lines_in l.rest)) ≡ digits_in l.label (lines_in l.text)

abbrev pub decreases-loop-rest : goal.decreases-loop-rest
decreases-loop-rest l = length l.rest
