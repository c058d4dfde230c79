use Rattle.kmip_response_write.proofs.Reading.{one_whole}
use Rattle.kmip_response_write.proofs.laws.response_is_one_message.Goals as goal

pub returns : goal.returns
returns c = one_whole
