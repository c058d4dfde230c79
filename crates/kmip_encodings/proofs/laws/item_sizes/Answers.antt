use Rattle.kmip_encodings.proofs.Parsed.{parsed_size}
use Rattle.kmip_encodings.proofs.laws.item_sizes.Goals as goal

pub returns : goal.returns
returns c = λ t level b p. (parsed_size t level b p).0
