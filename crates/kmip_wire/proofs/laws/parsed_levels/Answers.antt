use Rattle.kmip_wire.proofs.Levels.{tree_levels}
use Rattle.kmip_wire.proofs.laws.parsed_levels.Goals as goal

pub returns : goal.returns
returns c = tree_levels
