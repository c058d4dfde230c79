use Rattle.kmip_audit.proofs.EqualReports.{reports_tell}
use Rattle.kmip_audit.proofs.laws.reports_tell_skeletons.Goals as goal

pub returns : goal.returns
returns c = reports_tell c.diagnostics_tell_skeletons.ensures.bytes c.tree_computed.ensures
