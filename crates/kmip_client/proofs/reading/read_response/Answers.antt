use Rattle.kmip_response.specs.Values.{response_payload_val}
use Rattle.kmip_client.specs.Message.{message_at}
use Rattle.kmip_client.proofs.Headlines.{front_variant}
use Rattle.kmip_client.proofs.reading.read_response.Goals as goal

pub returns-clause-variant : goal.returns-clause-variant
returns-clause-variant c =
    front_variant response_payload_val c.args.operation (message_at c.args.bytes.now c.args.limit)
    c.read_front.result.answer c.read_front.ensures.answer
