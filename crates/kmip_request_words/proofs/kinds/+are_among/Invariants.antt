use Rattle.std.proofs.Common.{length}
use Rattle.kmip_request_words.proofs.kinds.+are_among.Given as goal

abbrev pub decreases-are_among : goal.decreases-are_among
decreases-are_among l = length l.words.now
