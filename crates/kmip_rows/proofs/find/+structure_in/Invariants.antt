use Rattle.std.proofs.Common.{length}
use Rattle.kmip_rows.proofs.find.+structure_in.Given as goal

abbrev pub decreases-structure_in : goal.decreases-structure_in
decreases-structure_in l = length l.structures.now
