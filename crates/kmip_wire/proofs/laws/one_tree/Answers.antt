use Rattle.kmip_wire.proofs.Computed as laws
use Rattle.kmip_wire.proofs.laws.one_tree.Goals as goal

pub returns : goal.returns
returns c = record { tree = laws.one_tree; length = laws.no_longer; split = laws.one_split }
