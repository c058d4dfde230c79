use Rattle.kmip_pem.proofs.Exact.{one_reading}
use Rattle.kmip_pem.proofs.laws.one_reading.Goals as goal

pub returns : goal.returns
returns c = one_reading
