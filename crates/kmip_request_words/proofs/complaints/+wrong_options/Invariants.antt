use Rattle.std.proofs.Common.{length}
use Rattle.kmip_request_words.proofs.complaints.+wrong_options.Given as goal

abbrev pub decreases-wrong_options : goal.decreases-wrong_options
decreases-wrong_options l = length l.options.now
