use Rattle.std.proofs.Common.{refl}
use Rattle.kmip_store.specs.declared.call.Call.TheVariants as calls
use Rattle.kmip_server_core.proofs.Answering.{telling_serves}
use Rattle.kmip_server_core.proofs.calls.query.Goals as goal

pub returns : goal.returns
returns c = λ maker.
    telling_serves c.args.store.now calls.Query c.args.stamp.now.time maker c.in_ok-item.item c.write.result refl refl c.in_ok-item.ensures c.write.ensures
