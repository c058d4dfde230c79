use Rattle.std.proofs.Common.{◌≡◌, length}
use Rattle.kmip_pem.specs.Lines.{without_white}
use Rattle.kmip_pem.proofs.lines.trim_start.Given as goal

abbrev pub invariant-loop-line : goal.invariant-loop-line
invariant-loop-line l = without_white l.line ≡ without_white l.fn.line

abbrev pub decreases-loop-line : goal.decreases-loop-line
decreases-loop-line l = length l.line
