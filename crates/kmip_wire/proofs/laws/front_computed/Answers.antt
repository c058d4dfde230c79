use Rattle.kmip_wire.proofs.Computed as laws
use Rattle.kmip_wire.proofs.laws.front_computed.Goals as goal

pub returns : goal.returns
returns c = laws.front_computed
