use Rattle.kmip_ttlv.proofs.Back.{encoded_back}
use Rattle.kmip_ttlv.proofs.laws.encoded_back.Goals as goal

pub returns : goal.returns
returns c = encoded_back
