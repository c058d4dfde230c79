use Rattle.std.proofs.Common.{◌*◌, ◌+◌, ◌^◌, ◌<◌, ◌≤◌, length}
use Rattle.kmip_wire.specs.Open.{State}
use Rattle.kmip_wire.proofs.front.are_items.Given as goal

abbrev pub decreases-items : goal.decreases-items
decreases-items l = 2 * length l.rest + l.depth

abbrev pub invariant-items : goal.invariant-items
invariant-items l = State l.levels l.bytes l.lefts l.depth l.left l.rest × (l.left < 2 ^ 32)

abbrev pub decreases-words : goal.decreases-words
decreases-words l = l.left

abbrev pub invariant-words : goal.invariant-words
invariant-words l = State l.levels l.bytes l.lefts l.depth l.left l.rest × (l.left < 2 ^ 32)
    × (length l.rest ≤ length l.initial.rest)
