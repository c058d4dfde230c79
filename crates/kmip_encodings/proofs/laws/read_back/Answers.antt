use Rattle.kmip_encodings.proofs.Law.{text_back, unique, tree_back}
use Rattle.kmip_encodings.proofs.Line.{line_back}
use Rattle.kmip_encodings.proofs.laws.read_back.Goals as goal

pub returns : goal.returns
returns c = record { text = text_back; line = line_back; names = unique; tree = tree_back }
