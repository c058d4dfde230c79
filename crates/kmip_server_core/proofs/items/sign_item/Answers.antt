use Rattle.std.proofs.Common.{refl, ℕ, ℤ, List}
use Rattle.kmip_enums.specs.declared.operation.Operation.TheVariants as operations
use Rattle.kmip_store.specs.Steps.{Signed}
use Rattle.kmip_store.specs.declared.call.Call.TheVariants as calls
use Rattle.kmip_server_core.proofs.Refused.{refusals_tell}
use Rattle.kmip_server_core.proofs.items.sign_item.Goals as goal

pub returns-in-Err : goal.returns-in-Err
returns-in-Err c = refusals_tell Signed
    (λ contents. calls.Sign c.args.id.now contents)
    operations.Sign c.args.answer c.in-Err.error c.refusal.result c.in-Err.is
    (λ a. refl) c.refusal.ensures
