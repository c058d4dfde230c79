use Rattle.kmip_client.proofs.Messages.{later_message}
use Rattle.kmip_client.proofs.laws.later_bytes_play_no_part.Goals as goal

pub returns : goal.returns
returns c = later_message
