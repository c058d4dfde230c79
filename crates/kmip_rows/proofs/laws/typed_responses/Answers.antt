use Rattle.kmip_rows.proofs.Computed.{responses_hold}
use Rattle.kmip_rows.proofs.laws.typed_responses.Goals as goal

pub returns : goal.returns
returns c = responses_hold
