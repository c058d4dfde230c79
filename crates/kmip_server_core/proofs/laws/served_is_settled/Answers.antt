use Rattle.kmip_server_core.proofs.Settled as laws
use Rattle.kmip_server_core.proofs.laws.served_is_settled.Goals as goal

pub returns : goal.returns
returns c = laws.served_is_settled
