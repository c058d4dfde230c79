use Rattle.std.proofs.Common.{arith}
use Rattle.kmip_server.proofs.CallSteps.{serves_none, begun_none}
use Rattle.kmip_server.proofs.link.ServerLink.new.Goals as goal

pub invariant_of-result : goal.invariant_of-result
invariant_of-result g c =
    rw c.new.ensures (record {
      facts = record {
        within = omega arith;
        none_kept = λ sound. c.new-5.ensures.items;
        serves = λ fed tells sound. serves_none _ (g.M.Maker.state c.args.maker) _ _
            (c.requires tells) c.new-2.ensures.items c.new-3.ensures.items;
        cut = λ fed tells faults. absurd (omega (arith, faults));
      };
      begun_is = begun_none _ _ c.new-4.ensures.items c.new-3.ensures.items;
    })
