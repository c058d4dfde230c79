use Rattle.kmip_plain.proofs.Numbers.{payload_is_numbers}
use Rattle.kmip_plain.proofs.laws.payload_numbers.Goals as goal

pub returns : goal.returns
returns c = payload_is_numbers
