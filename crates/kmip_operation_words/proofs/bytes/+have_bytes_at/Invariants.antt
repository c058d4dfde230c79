use Rattle.std.proofs.Common.{length}
use Rattle.kmip_operation_words.proofs.bytes.+have_bytes_at.Given as goal

abbrev pub decreases-have_bytes_at : goal.decreases-have_bytes_at
decreases-have_bytes_at l = length l.parts.now
