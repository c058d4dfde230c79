use Rattle.kmip_audit.proofs.Agreeing.{messages, responses}
use Rattle.kmip_audit.proofs.laws.answered_exactly_where_ok.Goals as goal

pub returns-clause-message : goal.returns-clause-message
returns-clause-message c = messages

pub returns-clause-bytes : goal.returns-clause-bytes
returns-clause-bytes c = responses
