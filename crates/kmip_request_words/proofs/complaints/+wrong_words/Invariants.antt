use Rattle.std.proofs.Common.{length}
use Rattle.kmip_request_words.proofs.complaints.+wrong_words.Given as goal

abbrev pub decreases-wrong_words : goal.decreases-wrong_words
decreases-wrong_words l = length l.rows.now
