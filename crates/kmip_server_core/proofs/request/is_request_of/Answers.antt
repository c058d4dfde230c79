use Rattle.std.proofs.Common.{Err, inl, inr, ap}
use Rattle.kmip_server_core.proofs.Requested.{is_of}
use Rattle.kmip_server_core.proofs.request.is_request_of.Goals as goal

pub returns-in-Ok : goal.returns-in-Ok
returns-in-Ok c =
    is_of c.is_made_by.result c.args.bytes.now c.in-Ok.payload c.in-Ok.credential c.args.call.now c.in-Ok.ensures.value c.in-Ok.ensures.ok.1 c.is_made_by.ensures.same c.is_made_by.ensures.other
