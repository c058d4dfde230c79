use Rattle.std.proofs.Common.{◌≡◌, ◌+◌, ◌++◌, drop}
use Rattle.kmip_audit.specs.Printed.{entries_text}
use Rattle.kmip_audit.proofs.lines.show_entries.Given as goal

-- the lines of the entries that are left come to the whole
abbrev pub invariant-loop-entry : goal.invariant-loop-entry
invariant-loop-entry l =
    (l.number ≡ l.entry-index) × (l.output ++ entries_text (l.number + 1)
    (drop l.entry-index l.entries) ≡ l.fn.output ++ entries_text 1 l.entries)
