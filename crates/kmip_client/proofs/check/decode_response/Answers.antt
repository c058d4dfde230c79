use Rattle.kmip_wire.specs.Items.{item_tree}
use Rattle.kmip_response.specs.Values.{response_message_val}
use Rattle.kmip_client.proofs.Variants.{variant_of}
use Rattle.kmip_client.proofs.check.decode_response.Goals as goal

pub check_message-requires-clause-own : goal.check_message-requires-clause-own
check_message-requires-clause-own g c = λ p checks.
    variant_of c.args.operation (item_tree c.in-Some.item)
    (response_message_val c.in-Ok.message) p c.in-Ok.ensures.ok checks
