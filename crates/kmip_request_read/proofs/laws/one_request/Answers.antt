use Rattle.kmip_request_read.proofs.Canonical as laws
use Rattle.kmip_request_read.proofs.laws.one_request.Goals as goal

pub returns : goal.returns
returns c = laws.one_request
