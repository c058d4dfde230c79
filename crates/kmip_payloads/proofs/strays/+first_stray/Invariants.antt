use Rattle.std.proofs.Common.{length}
use Rattle.kmip_payloads.proofs.strays.+first_stray.Given as goal

abbrev pub decreases-first_stray : goal.decreases-first_stray
decreases-first_stray l = length l.items.now
