use Rattle.std.proofs.Common.{◌+◌, length}
use Rattle.kmip_audit.proofs.Pairing.{SoFar}
use Rattle.kmip_audit.proofs.auditing.audit.Given as goal

abbrev pub invariant-frames : goal.invariant-frames
invariant-frames l = SoFar l.sent l.received l.asked l.answered l.entries

abbrev pub decreases-frames : goal.decreases-frames
decreases-frames l = length l.asked + length l.answered
