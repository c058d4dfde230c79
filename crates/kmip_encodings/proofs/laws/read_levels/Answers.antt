use Rattle.kmip_encodings.proofs.Levels.{text_bounded}
use Rattle.kmip_encodings.proofs.laws.read_levels.Goals as goal

pub returns : goal.returns
returns c = text_bounded
