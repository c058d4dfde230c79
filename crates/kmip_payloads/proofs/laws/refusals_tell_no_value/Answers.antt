use Rattle.kmip_payloads.proofs.Spots.{refusal_same}
use Rattle.kmip_payloads.proofs.laws.refusals_tell_no_value.Goals as goal

pub returns : goal.returns
returns c = refusal_same
