use Rattle.kmip_plain.proofs.Distinct.{payload_unique}
use Rattle.kmip_plain.proofs.laws.payload_names.Goals as goal

pub returns : goal.returns
returns c = payload_unique
