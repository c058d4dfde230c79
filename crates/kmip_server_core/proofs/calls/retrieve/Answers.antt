use Rattle.std.proofs.Common.{w32}
use Rattle.std.proofs.lemmas.Int.{to_z-of_z}
use Rattle.kmip_store.specs.Steps.{Random}
use Rattle.kmip_store.specs.declared.call.Call.TheVariants as calls
use Rattle.kmip_server_core.proofs.Answering.{asking_serves}
use Rattle.kmip_server_core.proofs.calls.retrieve.Goals as goal

pub returns-clause-answers : goal.returns-clause-answers
returns-clause-answers g c =
    asking_serves Random c.args.store.now c.rng_retrieve.new.self
    (calls.RngRetrieve c.args.num_bytes) c.args.stamp.now.time
    (g.M.Maker.state c.args.maker.now)
    (g.M.Maker.state c.rng_retrieve.new.maker)
    c.rng_retrieve.result c.in_ok-item.item c.write.result
    (rw (to_z-of_z w32 c.args.num_bytes c.ranges.num_bytes) at c.rng_retrieve.ensures.step)
    c.rng_retrieve.ensures.stays (c.in_ok-item.ensures c.args.num_bytes) c.write.ensures
