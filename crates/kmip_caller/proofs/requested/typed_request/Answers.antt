use Rattle.kmip_caller.proofs.Asked.{typed_asks}
use Rattle.kmip_caller.proofs.requested.typed_request.Goals as goal

pub returns : goal.returns
returns c =
    typed_asks c.args.order.now c.args.call c.in_ok-with_request.field-0.asked
    c.in_ok-with_request.field-0.request c.requires.tree
    c.requires.typed
    c.in_ok-with_request.ensures.asked c.in_ok-with_request.ensures.request
