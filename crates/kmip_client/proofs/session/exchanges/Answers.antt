use Rattle.std.proofs.Common.{◌≡◌, [], ◌∷◌, ◌++◌, ◌∙◌, sym, ap, length, arith, map, rules}
use Rattle.std.specs.Vec.Iter.{into_iter_items}
use Rattle.kmip_request.specs.Message.{operation_of}
use Rattle.kmip_client.specs.Calls.{IsCall}
use Rattle.kmip_client.specs.Outcome.{Answer, seen_by}
use Rattle.kmip_client.specs.Session.{CallReport, exchange_report, client_report}
use Rattle.kmip_client.proofs.Exchanges.{seen_loses, seen_lacks}
use Rattle.kmip_client.proofs.Sessions.{call_whole, pushed, empty_of, on_err}
use Rattle.kmip_client.proofs.SessionSteps.{going_none, going_on, session_lost, session_done, session_cut}
use Rattle.kmip_client.proofs.session.exchanges.Goals as goal

pub loop-payload-init : goal.loop-payload-init
loop-payload-init g c =
    let none : map (exchange_report g.P.AnyPayload.whole) c.new-exchanges.result ≡ [] =
    ap (λ l. map (exchange_report g.P.AnyPayload.whole) l) c.new-exchanges.ensures in
    let items = c.into_iter-payload-iterator.ensures.into_iter_gives in
    record {
      next = search (rules);
      finite = search (rules);
      counted = omega (arith, items.1, ap length items.0);
      going = rw (none, items.0) (going_none _ _ _);
    }

pub loop-payload-preserved : goal.loop-payload-preserved
loop-payload-preserved g c =
    let i = c.loop-payload.invariant in
    let steps = c.in-Some.ensures.steps in
    let all = g.P.AnyPayload.whole in
    let seen : Answer = seen_by all c.request-answer.result in
    let call : IsCall g.T.Link.state c.in-Some.payload c.loop-payload.client c.request-answer.new.self seen =
    call_whole (g.P.Answered.val (operation_of c.in-Some.payload))
    all c.request-answer.result c.request-answer.ensures.call
    (c.whole_holds.ensures.whole (operation_of c.in-Some.payload)) in
    let told : CallReport = client_report seen c.request-answer.new.self in
    let is : map (exchange_report all) c.push.new.self
    ≡ map (exchange_report all) c.loop-payload.exchanges ++ told ∷ [] =
    ap (λ l. map (exchange_report all) l) c.in_ok-push.ensures
    ∙ pushed all c.loop-payload.exchanges c.in_ok-exchange_of.field-0 told
    (ap (exchange_report all) c.in_ok-exchange_of.ensures) in
    record {
      next = tt;
      finite = tt;
      counted = omega (arith, steps.1, ap length steps.0, i.counted);
      going = rw is (going_on (rw steps.0 at i.going) call (
        sym (c.loses_connection-lost.ensures ∙ seen_loses all c.request-answer.result)
            ∙ c.if-lost.false,
        sym (c.lacks_memory.ensures ∙ seen_lacks all c.request-answer.result)
            ∙ c.if-lacks_memory.false,
      ));
    }

pub returns-then-lost-clause-session : goal.returns-then-lost-clause-session
returns-then-lost-clause-session g c =
    let all = g.P.AnyPayload.whole in
    let seen : Answer = seen_by all c.request-answer.result in
    let call : IsCall g.T.Link.state c.in-Some.payload c.loop-payload.client c.request-answer.new.self seen =
    call_whole (g.P.Answered.val (operation_of c.in-Some.payload))
    all c.request-answer.result c.request-answer.ensures.call
    (c.whole_holds.ensures.whole (operation_of c.in-Some.payload)) in
    let told : CallReport = client_report seen c.request-answer.new.self in
    let is : map (exchange_report all) c.push.new.self
    ≡ map (exchange_report all) c.loop-payload.exchanges ++ told ∷ [] =
    ap (λ l. map (exchange_report all) l) c.in_ok-push.ensures
    ∙ pushed all c.loop-payload.exchanges c.in_ok-exchange_of.field-0 told
    (ap (exchange_report all) c.in_ok-exchange_of.ensures) in
    rw is (session_lost (rw c.in-Some.ensures.steps.0 at c.loop-payload.invariant.going) call
    (sym (c.loses_connection-lost.ensures ∙ seen_loses all c.request-answer.result)
    ∙ c.if-lost.true) (sym (c.lacks_memory.ensures ∙ seen_lacks all c.request-answer.result)
    ∙ c.if-lacks_memory.false))

pub returns-clause-session : goal.returns-clause-session
returns-clause-session g c =
    let i = c.loop-payload.invariant in
    let none : into_iter_items c.loop-payload.payload-iterator ≡ [] =
    empty_of (into_iter_items c.loop-payload.payload-iterator)
    (omega (arith, i.counted, c.in-None.ensures.steps)) in
    session_done (rw none at i.going)

pub returns-then-lacks_memory-clause-cut : goal.returns-then-lacks_memory-clause-cut
returns-then-lacks_memory-clause-cut g c =
    session_cut (rw c.in-Some.ensures.steps.0 at c.loop-payload.invariant.going) c.request-answer.ensures.call

pub returns-in_err-exchange_of-clause-cut : goal.returns-in_err-exchange_of-clause-cut
returns-in_err-exchange_of-clause-cut g c =
    on_err _ (session_cut (rw c.in-Some.ensures.steps.0 at c.loop-payload.invariant.going)
    c.request-answer.ensures.call)

pub returns-in_err-push-clause-cut : goal.returns-in_err-push-clause-cut
returns-in_err-push-clause-cut g c =
    on_err _ (session_cut (rw c.in-Some.ensures.steps.0 at c.loop-payload.invariant.going)
    c.request-answer.ensures.call)
