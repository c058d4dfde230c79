use Rattle.std.proofs.Common.{◌≡◌, ◌++◌}
use Rattle.kmip_diag.specs.Lines.{indent}
use Rattle.kmip_diag.proofs.lines.push_indent.Given as goal

abbrev pub invariant-loop-left : goal.invariant-loop-left
invariant-loop-left l = l.initial.text ++ indent l.depth ≡ l.text ++ indent l.left

abbrev pub decreases-loop-left : goal.decreases-loop-left
decreases-loop-left l = l.left
