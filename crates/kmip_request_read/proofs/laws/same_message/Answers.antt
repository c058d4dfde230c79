use Rattle.kmip_request_read.proofs.Read as laws
use Rattle.kmip_request_read.proofs.laws.same_message.Goals as goal

pub returns : goal.returns
returns c = laws.bytes_same
