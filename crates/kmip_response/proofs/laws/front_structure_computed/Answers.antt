use Rattle.kmip_response.proofs.Front as laws
use Rattle.kmip_response.proofs.laws.front_structure_computed.Goals as goal

pub returns : goal.returns
returns c = laws.front_structure_computed
