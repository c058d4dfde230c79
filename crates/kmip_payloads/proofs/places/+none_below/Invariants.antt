use Rattle.std.proofs.Common.{length}
use Rattle.kmip_payloads.proofs.places.+none_below.Given as goal

abbrev pub decreases-none_below : goal.decreases-none_below
decreases-none_below l = length l.items.now
