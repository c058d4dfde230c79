use Rattle.std.proofs.Common.{length}
use Rattle.kmip_der.proofs.write.+digits_of.Given as goal

abbrev pub decreases-digits_of : goal.decreases-digits_of
decreases-digits_of l = length l.number.now
