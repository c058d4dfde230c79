use Rattle.std.proofs.Common.{length}
use Rattle.kmip_payloads.proofs.places.+none_here.Given as goal

abbrev pub decreases-none_here : goal.decreases-none_here
decreases-none_here l = length l.items.now
