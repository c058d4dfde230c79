use Rattle.kmip_joined.proofs.Empty.{joined_new}
use Rattle.kmip_joined.proofs.made.joined_link.Goals as goal

pub returns-clause-joined : goal.returns-clause-joined
returns-clause-joined c = joined_new c.new-2.result c.new.result c.new-2.ensures
