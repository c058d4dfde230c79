use Rattle.std.proofs.Common.{refl}
use Rattle.kmip_store.specs.declared.call.Call.TheVariants as calls
use Rattle.kmip_server_core.proofs.Answering.{telling_serves}
use Rattle.kmip_server_core.proofs.Changes.{get_stays}
use Rattle.kmip_server_core.proofs.calls.get.Goals as goal

pub returns : goal.returns
returns c = λ maker. telling_serves c.args.store.now
    (calls.GetKey c.args.id.now) c.args.stamp.now.time maker c.in_ok-item.item c.write.result refl
    (get_stays c.args.store.now c.args.id.now) c.in_ok-item.ensures c.write.ensures
