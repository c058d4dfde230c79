use Rattle.std.proofs.Common.{subst, Result}
use Rattle.kmip_wire.specs.Tree.{Tree}
use Rattle.kmip_client.specs.declared.error.Error.{Error}
use Rattle.kmip_client.specs.WholeMessage.{IsMessageCall, whole_bytes}
use Rattle.kmip_client.proofs.Exchanges.{seen_itself}
use Rattle.kmip_client.proofs.WholeMessages.{answers_message}
use Rattle.kmip_client.proofs.client.Client.do_message.Goals as goal

pub returns-clause-call : goal.returns-clause-call
returns-clause-call g c =
    let P : Result Tree Error → Type 0 =
    λ seen. IsMessageCall g.T.Link.state c.args.message.now c.args.self.now c.make_call.new.self seen in
    subst P (seen_itself c.make_call.result) c.make_call.ensures

pub returns-clause-message : goal.returns-clause-message
returns-clause-message g c =
    answers_message (whole_bytes c.args.message.now) c.args.self.now.limit c.make_call.result
    (returns-clause-call g c).caused
