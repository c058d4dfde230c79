use Rattle.kmip_request.specs.Message.{request_bytes, operation_of}
use Rattle.kmip_client.proofs.Headlines.{seen_variant}
use Rattle.kmip_client.proofs.client.Client.request.Goals as goal

pub returns-clause-call : goal.returns-clause-call
returns-clause-call g c = c.make_call.ensures

pub returns-clause-variant : goal.returns-clause-variant
returns-clause-variant g c =
    seen_variant (g.P.Answered.val (operation_of c.args.payload.now))
    (request_bytes c.args.payload.now c.args.self.now.credential)
    (operation_of c.args.payload.now) c.args.self.now.limit c.make_call.result
    (returns-clause-call g c).caused
