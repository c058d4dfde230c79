use Rattle.kmip_rows.proofs.Computed.{requests_hold}
use Rattle.kmip_rows.proofs.laws.typed_requests.Goals as goal

pub returns : goal.returns
returns c = requests_hold
