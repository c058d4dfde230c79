use Rattle.std.proofs.Common.{length}
use Rattle.kmip_request_words.proofs.complaints.+wrong_among.Given as goal

abbrev pub decreases-wrong_among : goal.decreases-wrong_among
decreases-wrong_among l = length l.words.now
