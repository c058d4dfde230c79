use Rattle.kmip_key_files.proofs.Written.{format_type, format_told}
use Rattle.kmip_key_files.proofs.laws.format_keeps_the_key.Goals as goal

pub returns : goal.returns
returns c = record { object_type = format_type; same = format_told }
