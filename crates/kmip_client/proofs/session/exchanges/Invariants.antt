use Rattle.std.proofs.Common.{◌≡◌, length, map}
use Rattle.std.specs.Vec.Iter.{into_iter_items, into_iter_len}
use Rattle.kmip_client.specs.Session.{exchange_report}
use Rattle.kmip_client.proofs.SessionSteps.{Going}
use Rattle.kmip_client.proofs.session.exchanges.Given as goal

abbrev pub invariant-loop-payload : goal.invariant-loop-payload
invariant-loop-payload g l = record {
  next : (goal.iterator-loop-payload g).can_next l.payload-iterator;
  finite : (goal.iterator-loop-payload g).is_finite l.payload-iterator;
  counted : into_iter_len l.payload-iterator ≡ length (into_iter_items l.payload-iterator);
  going : Going g.T.Link.state l.fn.payloads.items l.initial.client l.client
      (map (exchange_report g.P.AnyPayload.whole) l.exchanges) (into_iter_items l.payload-iterator);
}
