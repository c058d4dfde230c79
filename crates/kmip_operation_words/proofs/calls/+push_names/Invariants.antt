use Rattle.std.proofs.Common.{length}
use Rattle.kmip_operation_words.proofs.calls.+push_names.Given as goal

abbrev pub decreases-push_names : goal.decreases-push_names
decreases-push_names l = length l.fields.now
