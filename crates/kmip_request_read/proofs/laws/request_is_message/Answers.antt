use Rattle.kmip_request_read.proofs.Framed as laws
use Rattle.kmip_request_read.proofs.laws.request_is_message.Goals as goal

pub returns : goal.returns
returns c = laws.request_is_message
