use Rattle.std.proofs.Common.{length}
use Rattle.kmip_request_words.proofs.complaints.+has_other.Given as goal

abbrev pub decreases-has_other : goal.decreases-has_other
decreases-has_other l = length l.words.now
