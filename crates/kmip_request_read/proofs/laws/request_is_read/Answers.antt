use Rattle.kmip_request_read.proofs.Read as laws
use Rattle.kmip_request_read.proofs.laws.request_is_read.Goals as goal

pub returns : goal.returns
returns c = laws.request_is_read
