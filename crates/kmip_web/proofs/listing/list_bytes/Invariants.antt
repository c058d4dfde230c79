use Rattle.std.proofs.Common.{◌≡◌, ◌++◌, ◌≤◌, ◌+◌, length}
use Rattle.kmip_diag.specs.Diagnostic.{shown_within}
use Rattle.kmip_web.specs.Listing.{shown_listed, listing}
use Rattle.kmip_web.proofs.listing.list_bytes.Given as goal

abbrev pub invariant-shown : goal.invariant-shown
invariant-shown l =
    (1 ≤ l.level)
    × (l.at + length l.rest ≤ length l.bytes)
    × (listing l.bytes ≡ l.text ++ shown_listed l.at l.named (shown_within l.level l.rest))

abbrev pub decreases-shown : goal.decreases-shown
decreases-shown l = length l.rest
