use Rattle.std.proofs.Common.{length}
use Rattle.kmip_request_words.proofs.complaints.+is_twice.Given as goal

abbrev pub decreases-is_twice : goal.decreases-is_twice
decreases-is_twice l = length l.words.now
