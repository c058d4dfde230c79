use Rattle.std.proofs.Common.{length}
use Rattle.kmip_request_words.proofs.kinds.+push_texts.Given as goal

abbrev pub decreases-push_texts : goal.decreases-push_texts
decreases-push_texts l = length l.texts.now
