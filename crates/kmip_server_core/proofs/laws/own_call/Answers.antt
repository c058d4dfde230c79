use Rattle.kmip_server_core.proofs.Requested as laws
use Rattle.kmip_server_core.proofs.laws.own_call.Goals as goal

pub returns : goal.returns
returns c = laws.own_call
