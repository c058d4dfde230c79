use Rattle.std.proofs.Common.{length}
use Rattle.kmip_request_words.proofs.kinds.+push_options.Given as goal

abbrev pub decreases-push_options : goal.decreases-push_options
decreases-push_options l = length l.options.now
