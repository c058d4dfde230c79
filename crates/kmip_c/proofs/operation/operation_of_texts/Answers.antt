use Rattle.kmip_c.proofs.Operations.{asked_of_texts}
use Rattle.kmip_c.proofs.operation.operation_of_texts.Goals as goal

pub returns : goal.returns
returns c =
    asked_of_texts c.operation_call.result c.args.name.now c.args.version.now c.args.id.now c.args.payload.now
    (rw c.id_of.ensures at c.operation_call.ensures)
