use Rattle.std.proofs.Common.{length}
use Rattle.kmip_der.proofs.write.+push_integers.Given as goal

abbrev pub decreases-push_integers : goal.decreases-push_integers
decreases-push_integers l = length l.numbers.now
