use Rattle.std.proofs.Common.{length}
use Rattle.kmip_request_words.proofs.kinds.+push_listed.Given as goal

abbrev pub decreases-push_listed : goal.decreases-push_listed
decreases-push_listed l = length l.names.now
