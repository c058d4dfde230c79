use Rattle.std.proofs.Common.{◌≡◌, length}
use Rattle.kmip_pem.specs.Lines.{lines_in}
use Rattle.kmip_pem.specs.Pem.{is_closed}
use Rattle.kmip_pem.proofs.blocks.is_closed.Given as goal

abbrev pub invariant-loop-rest : goal.invariant-loop-rest
invariant-loop-rest l = is_closed l.label (lines_in l.rest) ≡ is_closed l.label (lines_in l.text)

abbrev pub decreases-loop-rest : goal.decreases-loop-rest
decreases-loop-rest l = length l.rest
