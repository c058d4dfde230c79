use Rattle.kmip_store.specs.Steps.{Signed}
use Rattle.kmip_store.specs.declared.call.Call.TheVariants as calls
use Rattle.kmip_server_core.proofs.Answering.{asking_serves}
use Rattle.kmip_server_core.proofs.calls.sign.Goals as goal

pub returns-clause-answers : goal.returns-clause-answers
returns-clause-answers g c =
    asking_serves Signed c.args.store.now c.sign-signature.new.self
    (calls.Sign c.args.id.now c.args.in_bytes.now) c.args.stamp.now.time
    (g.M.Maker.state c.args.maker.now)
    (g.M.Maker.state c.sign-signature.new.maker)
    c.sign-signature.result c.in_ok-item.item c.write.result
    (rw (c.as_str.ensures.bytes, c.as_slice.ensures) at c.sign-signature.ensures.step)
    c.sign-signature.ensures.stays (c.in_ok-item.ensures c.args.in_bytes.now) c.write.ensures
