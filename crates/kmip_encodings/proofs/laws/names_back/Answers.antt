use Rattle.kmip_encodings.proofs.Back.{word_named}
use Rattle.kmip_encodings.proofs.TheLines.{number_of_name, number_of_line}
use Rattle.kmip_encodings.proofs.laws.names_back.Goals as goal

pub returns : goal.returns
returns c = record { written = number_of_name; lines = number_of_line; words = word_named }
