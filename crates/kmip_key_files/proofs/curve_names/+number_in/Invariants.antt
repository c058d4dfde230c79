use Rattle.std.proofs.Common.{length}
use Rattle.kmip_key_files.proofs.curve_names.+number_in.Given as goal

abbrev pub decreases-number_in : goal.decreases-number_in
decreases-number_in l = length l.rows.now
