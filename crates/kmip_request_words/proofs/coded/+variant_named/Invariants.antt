use Rattle.std.proofs.Common.{length}
use Rattle.kmip_request_words.proofs.coded.+variant_named.Given as goal

abbrev pub decreases-variant_named : goal.decreases-variant_named
decreases-variant_named g l = length l.variants.now
