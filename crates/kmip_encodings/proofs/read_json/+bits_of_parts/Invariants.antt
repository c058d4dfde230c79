use Rattle.std.proofs.Common.{length}
use Rattle.kmip_encodings.proofs.read_json.+bits_of_parts.Given as goal

abbrev pub decreases-bits_of_parts : goal.decreases-bits_of_parts
decreases-bits_of_parts l = length l.parts.now
