use Rattle.kmip_client.specs.WholeMessage.{whole_bytes}
use Rattle.kmip_operations.proofs.message.message_request.Goals as goal

pub returns : goal.returns
returns c = c.bytes_if_any.ensures (whole_bytes c.args.message.now) c.write_whole_message.ensures
