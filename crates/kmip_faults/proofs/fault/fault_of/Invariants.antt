use Rattle.std.proofs.Common.{◌≡◌, ◌≤◌, ◌+◌, length}
use Rattle.kmip_diag.specs.Diagnostic.{shown_within}
use Rattle.kmip_faults.specs.Fault.{fault_in, fault_of}
use Rattle.kmip_faults.proofs.fault.fault_of.Given as goal

abbrev pub invariant-shown : goal.invariant-shown
invariant-shown l =
    (1 ≤ l.level)
    × (l.at + length l.rest ≤ length l.bytes)
    × (fault_of l.bytes ≡ fault_in l.at l.level l.is_cut_off l.rest (shown_within l.level l.rest))

abbrev pub decreases-shown : goal.decreases-shown
decreases-shown l = length l.rest
