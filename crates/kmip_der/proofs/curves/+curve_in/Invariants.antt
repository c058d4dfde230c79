use Rattle.std.proofs.Common.{length}
use Rattle.kmip_der.proofs.curves.+curve_in.Given as goal

abbrev pub decreases-curve_in : goal.decreases-curve_in
decreases-curve_in l = length l.rows.now
