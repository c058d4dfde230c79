use Rattle.std.proofs.Common.{◌≡◌, ℕ, List, Option, Some, None, sym, ◌∙◌, subst}
use Rattle.std.specs.Prelude.{Result, OnOk, IsErrOf}
use Rattle.kmip_wire.specs.declared.error.WireError.{WireError}
use Rattle.kmip_wire.specs.declared.error.WireError.TheVariants.{NoForm}
use Rattle.kmip_request.proofs.Messages.{lent_ok, lent_no_form}
use Rattle.kmip_request.proofs.writing.write_empty.Goals as goal

pub returns-clause-ok : goal.returns-clause-ok
returns-clause-ok c =
    lent_ok _ _ c.args.payload.now c.args.authentication.now c.protocol_version-version.result c.operation-operation.result c.protocol_version-version.ensures c.operation-operation.ensures c.write_message.ensures.ok

pub returns-clause-no_form : goal.returns-clause-no_form
returns-clause-no_form c is =
    lent_no_form c.args.payload.now c.args.authentication.now c.protocol_version-version.result c.operation-operation.result c.protocol_version-version.ensures c.operation-operation.ensures (c.write_message.ensures.no_form is)
