use Rattle.kmip_wire.proofs.Computed as laws
use Rattle.kmip_wire.proofs.laws.tree_computed.Goals as goal

pub returns : goal.returns
returns c = laws.tree_computed
