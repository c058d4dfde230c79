use Rattle.std.proofs.Common.{length}
use Rattle.kmip_request_words.proofs.complaints.+push_words.Given as goal

abbrev pub decreases-push_words : goal.decreases-push_words
decreases-push_words l = length l.rows.now
