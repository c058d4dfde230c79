use Rattle.std.proofs.Common.{length}
use Rattle.kmip_operation_words.proofs.bytes.+has_bytes_at.Given as goal

abbrev pub decreases-has_bytes_at : goal.decreases-has_bytes_at
decreases-has_bytes_at l = length l.fields.now
