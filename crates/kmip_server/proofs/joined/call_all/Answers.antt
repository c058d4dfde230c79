use Rattle.kmip_server.proofs.Directs.{Laws, session_if}
use Rattle.kmip_server.proofs.joined.call_all.Goals as goal

pub returns-clause-session : goal.returns-clause-session
returns-clause-session g c =
    let laws : Laws = record {
      own = c.own_call.ensures;
      settled =
          c.served_is_settled.ensures;
      back = c.settled_is_read.ensures.read;
    } in
    session_if laws g.M.Maker.state c.args.calls c.args.client.now c.calls_over.new.client c.calls_over.result c.calls_over.ensures.ran c.calls_over.ensures.ended c.calls_over.ensures.count
