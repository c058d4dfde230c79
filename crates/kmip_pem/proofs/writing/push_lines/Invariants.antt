use Rattle.std.proofs.Common.{◌≡◌, ◌++◌, length}
use Rattle.kmip_pem.specs.Written.{body_text}
use Rattle.kmip_pem.proofs.writing.push_lines.Given as goal

abbrev pub invariant-loop-rest : goal.invariant-loop-rest
invariant-loop-rest l = l.out ++ body_text l.rest ≡ l.initial.out ++ body_text l.digits

abbrev pub decreases-loop-rest : goal.decreases-loop-rest
decreases-loop-rest l = length l.rest
