use Rattle.std.proofs.Common.{length}
use Rattle.kmip_encodings.proofs.refusal.+place_text.Given as goal

abbrev pub decreases-place_text : goal.decreases-place_text
decreases-place_text l = length l.place.now
