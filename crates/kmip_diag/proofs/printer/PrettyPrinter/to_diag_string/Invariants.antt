use Rattle.std.proofs.Common.{◌≡◌, ◌≤◌, ◌++◌, length}
use Rattle.kmip_diag.specs.Diagnostic.{shown_within, shown_text, diagnostic}
use Rattle.kmip_diag.proofs.printer.PrettyPrinter.to_diag_string.Given as goal

abbrev pub invariant-loop-rest : goal.invariant-loop-rest
invariant-loop-rest l = (1 ≤ l.level) × (l.level ≤ 65)
    × (diagnostic l.self l.bytes ≡ l.text
    ++ shown_text l.self l.is_cut_off (shown_within l.level l.rest))

abbrev pub decreases-loop-rest : goal.decreases-loop-rest
decreases-loop-rest l = length l.rest
