use Rattle.std.proofs.Common.{length}
use Rattle.kmip_der.proofs.curves.+curve_with.Given as goal

abbrev pub decreases-curve_with : goal.decreases-curve_with
decreases-curve_with l = length l.rows.now
