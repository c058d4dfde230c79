use Rattle.std.proofs.Common.{length}
use Rattle.kmip_operation_words.proofs.values.+uses_of.Given as goal

abbrev pub decreases-uses_of : goal.decreases-uses_of
decreases-uses_of l = length l.names.now
