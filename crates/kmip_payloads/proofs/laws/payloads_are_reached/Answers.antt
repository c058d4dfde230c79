use Rattle.kmip_payloads.proofs.Whole.{payload_whole}
use Rattle.kmip_payloads.proofs.laws.payloads_are_reached.Goals as goal

pub returns : goal.returns
returns c = payload_whole
