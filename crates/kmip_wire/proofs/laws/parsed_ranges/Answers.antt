use Rattle.kmip_wire.proofs.Ranges as ranges
use Rattle.kmip_wire.proofs.laws.parsed_ranges.Goals as goal

pub returns : goal.returns
returns c = ranges.parsed_ranges
