use Rattle.std.proofs.Common.{length}
use Rattle.kmip_diag.proofs.Stacks.{Reads}
use Rattle.kmip_diag.proofs.printer.PrettyPrinter.expand.Given as goal

abbrev pub invariant-loop-rest : goal.invariant-loop-rest
invariant-loop-rest l = Reads l.self l.text l.rest l.depth l.again l.lines

abbrev pub decreases-loop-rest : goal.decreases-loop-rest
decreases-loop-rest l = length l.rest
