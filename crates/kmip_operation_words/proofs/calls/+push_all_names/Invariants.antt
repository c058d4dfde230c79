use Rattle.std.proofs.Common.{length}
use Rattle.kmip_operation_words.proofs.calls.+push_all_names.Given as goal

abbrev pub decreases-push_all_names : goal.decreases-push_all_names
decreases-push_all_names l = length l.parts.now
