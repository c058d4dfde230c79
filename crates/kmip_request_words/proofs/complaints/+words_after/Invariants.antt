use Rattle.std.proofs.Common.{length}
use Rattle.kmip_request_words.proofs.complaints.+words_after.Given as goal

abbrev pub decreases-words_after : goal.decreases-words_after
decreases-words_after l = length l.rows.now
