use Rattle.kmip_server_core.proofs.Matched as laws
use Rattle.kmip_server_core.proofs.laws.helper_is_matched.Goals as goal

pub returns : goal.returns
returns c = laws.helper_is_matched
