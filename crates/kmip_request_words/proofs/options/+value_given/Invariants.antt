use Rattle.std.proofs.Common.{length}
use Rattle.kmip_request_words.proofs.options.+value_given.Given as goal

abbrev pub decreases-value_given : goal.decreases-value_given
decreases-value_given l = length l.words.now
