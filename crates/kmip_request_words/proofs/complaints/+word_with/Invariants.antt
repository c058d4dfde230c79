use Rattle.std.proofs.Common.{length}
use Rattle.kmip_request_words.proofs.complaints.+word_with.Given as goal

abbrev pub decreases-word_with : goal.decreases-word_with
decreases-word_with l = length l.words.now
