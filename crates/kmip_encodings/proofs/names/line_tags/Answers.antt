use Rattle.kmip_encodings.proofs.TheLines.{tags_are}
use Rattle.kmip_encodings.proofs.names.line_tags.Goals as goal

pub returns-clause-table : goal.returns-clause-table
returns-clause-table c = tags_are
