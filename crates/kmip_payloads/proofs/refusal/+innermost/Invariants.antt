use Rattle.std.proofs.Common.{length}
use Rattle.kmip_payloads.proofs.refusal.+innermost.Given as goal

abbrev pub decreases-innermost : goal.decreases-innermost
decreases-innermost l = length l.path.now
