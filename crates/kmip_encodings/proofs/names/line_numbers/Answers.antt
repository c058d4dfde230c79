use Rattle.kmip_encodings.proofs.TheLines.{numbers_are}
use Rattle.kmip_encodings.proofs.names.line_numbers.Goals as goal

pub returns-clause-table : goal.returns-clause-table
returns-clause-table c = numbers_are
