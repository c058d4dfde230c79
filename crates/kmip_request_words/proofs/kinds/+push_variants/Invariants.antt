use Rattle.std.proofs.Common.{length}
use Rattle.kmip_request_words.proofs.kinds.+push_variants.Given as goal

abbrev pub decreases-push_variants : goal.decreases-push_variants
decreases-push_variants g l = length l.variants.now
