use Rattle.kmip_wire.specs.Head.{head_length}
use Rattle.kmip_server.proofs.messages.head_length.Goals as goal

pub returns : goal.returns
unfolding head_length
returns c = c.from_be_bytes.ensures
