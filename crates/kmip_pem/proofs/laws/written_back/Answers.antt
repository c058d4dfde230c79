use Rattle.kmip_pem.proofs.Written.{written_is}
use Rattle.kmip_pem.proofs.laws.written_back.Goals as goal

pub returns : goal.returns
returns c = written_is
