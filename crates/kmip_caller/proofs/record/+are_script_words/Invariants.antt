use Rattle.std.proofs.Common.{length}
use Rattle.kmip_caller.proofs.record.+are_script_words.Given as goal

abbrev pub decreases-are_script_words : goal.decreases-are_script_words
decreases-are_script_words l = length l.words.now
