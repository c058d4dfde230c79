use Rattle.std.proofs.Common.{refl}
use Rattle.kmip_enums.specs.declared.operation.Operation.TheVariants as operations
use Rattle.kmip_store.specs.Steps.{Done}
use Rattle.kmip_store.specs.declared.call.Call.TheVariants as calls
use Rattle.kmip_server_core.proofs.Refused.{refusal_tells}
use Rattle.kmip_server_core.proofs.items.activate_item.Goals as goal

pub returns-in-Err : goal.returns-in-Err
returns-in-Err c = refusal_tells (λ _. Done)
    (calls.ActivateKey c.args.id.now)
    operations.Activate c.args.answer c.in-Err.error c.refusal.result c.in-Err.is refl c.refusal.ensures
