use Rattle.std.proofs.Common.{subst, Result}
use Rattle.kmip_wire.specs.Tree.{Tree}
use Rattle.kmip_client.specs.declared.error.Error.{Error}
use Rattle.kmip_client.specs.Operation.{IsOperationCall, tree_request}
use Rattle.kmip_client.proofs.Exchanges.{seen_itself}
use Rattle.kmip_client.proofs.client.Client.do_operation.Goals as goal

pub returns : goal.returns
returns g c =
    let P : Result Tree Error → Type 0 =
    λ seen. IsOperationCall g.T.Link.state
    (tree_request c.args.request.now) c.args.self.now c.make_call.new.self seen in
    subst P (seen_itself c.make_call.result) c.make_call.ensures
