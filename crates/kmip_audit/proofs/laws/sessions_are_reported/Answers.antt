use Rattle.kmip_audit.proofs.Served.{sessions_reported}
use Rattle.kmip_audit.proofs.laws.sessions_are_reported.Goals as goal

pub returns : goal.returns
returns c = sessions_reported c.request_is_message.ensures c.request_is_read.ensures
