use Rattle.kmip_diag.proofs.Explained.{explained}
use Rattle.kmip_diag.proofs.laws.diagnostics_expand.Goals as goal

pub returns : goal.returns
returns c = explained
