use Rattle.std.proofs.Common.{◌≤◌, length, pos, sym}
use Rattle.kmip_response.specs.Values.{batch_item_val, response_message_val}
use Rattle.kmip_client.specs.Check.{is_number, batch_count}
use Rattle.kmip_audit.proofs.Variants.{several}
use Rattle.kmip_audit.proofs.responses.message_outcome.Goals as goal

pub returns-in_default-2 : goal.returns-in_default-2
returns-in_default-2 c =
    let more : 2 ≤ length c.args.message.now.batch_items = rw c.as_slice.ensures at c.in_default.len_at_least in
    sym (several c.args.operation
    (is_number (pos 1) (batch_count (response_message_val c.args.message.now)))
    batch_item_val c.args.message.now.batch_items more)
