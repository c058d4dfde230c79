use Rattle.kmip_caller.proofs.Asked.{message_asks}
use Rattle.kmip_caller.proofs.requested.message_request_of.Goals as goal

pub returns : goal.returns
returns c =
    message_asks c.args.order.now c.args.text.now c.in-Some.message _
    c.requires.words (rw c.in-Some.is at c.in_ok-message.ensures)
    c.in_ok-request.ensures
