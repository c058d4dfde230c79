use Rattle.std.proofs.Common.{length}
use Rattle.kmip_request_words.proofs.options.+name_given.Given as goal

abbrev pub decreases-name_given : goal.decreases-name_given
decreases-name_given l = length l.names.now
