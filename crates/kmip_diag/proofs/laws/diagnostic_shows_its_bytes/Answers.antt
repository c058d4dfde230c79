use Rattle.kmip_diag.proofs.Showing.{is_diagnostic}
use Rattle.kmip_diag.proofs.laws.diagnostic_shows_its_bytes.Goals as goal

pub returns : goal.returns
returns c = is_diagnostic
