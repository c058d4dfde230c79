use Rattle.std.proofs.Common.{length}
use Rattle.kmip_payloads.proofs.places.+none_given.Given as goal

abbrev pub decreases-none_given : goal.decreases-none_given
decreases-none_given l = length l.tags.now
