use Rattle.kmip_client.proofs.Orders as laws
use Rattle.kmip_client.proofs.laws.diagnostics_of_sessions.Goals as goal

pub returns : goal.returns
returns c = laws.sessions_tell c.diagnostics_tell_skeletons.ensures.trees
