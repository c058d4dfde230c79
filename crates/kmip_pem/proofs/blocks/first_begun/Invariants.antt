use Rattle.std.proofs.Common.{◌≡◌, length}
use Rattle.kmip_pem.specs.Lines.{lines_in}
use Rattle.kmip_pem.specs.Pem.{first_begun}
use Rattle.kmip_pem.proofs.blocks.first_begun.Given as goal

abbrev pub invariant-loop-rest : goal.invariant-loop-rest
invariant-loop-rest l = first_begun (lines_in l.rest) ≡ first_begun (lines_in l.text)

abbrev pub decreases-loop-rest : goal.decreases-loop-rest
decreases-loop-rest l = length l.rest
