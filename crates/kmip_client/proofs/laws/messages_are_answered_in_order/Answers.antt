use Rattle.kmip_client.proofs.Orders as laws
use Rattle.kmip_client.proofs.laws.messages_are_answered_in_order.Goals as goal

pub returns : goal.returns
returns c = laws.in_order
