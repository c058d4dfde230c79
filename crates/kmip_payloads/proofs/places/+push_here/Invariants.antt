use Rattle.std.proofs.Common.{length}
use Rattle.kmip_payloads.proofs.places.+push_here.Given as goal

abbrev pub decreases-push_here : goal.decreases-push_here
decreases-push_here l = length l.items.now
