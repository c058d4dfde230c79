use Rattle.kmip_encodings.proofs.TheLines.{names_are}
use Rattle.kmip_encodings.proofs.names.line_names.Goals as goal

pub returns-clause-table : goal.returns-clause-table
returns-clause-table c = names_are
