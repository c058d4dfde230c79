use Rattle.std.specs.Borrow.{Bor}
use Rattle.kmip_store.specs.Steps.{Got}
use Rattle.kmip_store.specs.declared.object.Object.{Object}
use Rattle.kmip_server_core.proofs.Refused.{get_refused}
use Rattle.kmip_server_core.proofs.items.get_item.Goals as goal

pub returns-in-Err : goal.returns-in-Err
returns-in-Err c = get_refused {T = Bor Object}
    (λ object. Got object.now)
    c.args.store.now c.args.id.now c.as_str.result.now c.in-Err.error c.refusal.result c.as_str.ensures.bytes c.in-Err.ensures.step c.refusal.ensures
