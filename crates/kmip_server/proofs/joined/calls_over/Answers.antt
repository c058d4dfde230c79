use Rattle.std.proofs.Common.{◌≡◌, ◌+◌, ◌≤◌, ◌∷◌, [], drop, length, sym, ◌∙◌, ap, arith, Bool, ℕ}
use Rattle.std.proofs.lemmas.Grind.{common_steps}
use Rattle.kmip_client.specs.Client.{count_after}
use Rattle.kmip_client.proofs.Sessions.{on_err}
use Rattle.kmip_client.proofs.Transfers.{keeps_on}
use Rattle.kmip_server.specs.Calls.{report_of, call_settings}
use Rattle.kmip_server.specs.Joined.{CallSettings}
use Rattle.kmip_server.specs.Link.{server_link_state}
use Rattle.kmip_server.proofs.Chain.{chain_on, chain_lost, chain_end, chain_cut, lost_after}
use Rattle.kmip_server.proofs.CallSteps.{rest_is, going_called, still_open, going_lost, going_all, ends_with}
use Rattle.kmip_server.proofs.joined.calls_over.Goals as goal

pub loop-call-preserved : goal.loop-call-preserved
loop-call-preserved g c =
    let i = c.loop-call.invariant in
    let rest : drop c.loop-call.call-index c.as_slice-call-items.result.now
    ≡ c.call-item.result ∷ drop (c.loop-call.call-index + 1) c.as_slice-call-items.result.now =
    rest_is c.as_slice-call-items.result.now c.loop-call.call-index c.call-item.result c.loop-call-test.true c.call-item.is in
    record {
      keeps = keeps_on i.keeps c.make_call.ensures.keeps;
      settings = c.make_call.ensures.settings ∙ i.settings;
      errors = c.in_ok-report.ensures.count
          ∙ ap (λ (b : Bool). count_after c.loop-call.client.errors b) c.if-lost.false ∙ i.errors;
      connected =
          ends_with c.loop-call.reports c.push.new.self c.in_ok-report.report c.in_ok-report.lost c.in_ok-push.ensures c.in_ok-report.ensures.lost ∙ c.if-lost.false;
      facts = c.in_ok-report.ensures.facts;
      chain = rw c.in_ok-push.ensures
          (chain_on (rw rest at i.chain) c.in_ok-report.ensures.ran
          (sym c.in_ok-report.ensures.lost ∙ c.if-lost.false, c.in_ok-report.ensures.room));
      opened = λ opened. still_open g.M.Maker.state
          (call_settings c.loop-call.client)
          c.call-item.result c.loop-call.client.link c.make_call.new.client.link
          (report_of c.in_ok-report.report) c.in_ok-report.lost c.if-lost.false
          (c.in_ok-report.ensures.called (i.opened opened));
      going = λ opened. going_called g.M.Maker.state (call_settings c.sent_len.new.client)
          (call_settings c.loop-call.client)
          (server_link_state g.M.Maker.state c.sent_len.new.client.link)
          c.loop-call.client.link c.make_call.new.client.link c.as_slice-call-items.result.now c.loop-call.call-index c.call-item.result c.loop-call.reports c.push.new.self c.in_ok-report.report c.in_ok-report.lost
          i.settings c.if-lost.false c.loop-call-test.true c.call-item.is c.in_ok-push.ensures
          (c.in_ok-report.ensures.called (i.opened opened)) (i.going opened);
    }

pub returns-then-lost-clause-ran : goal.returns-then-lost-clause-ran
returns-then-lost-clause-ran g c =
    let i = c.loop-call.invariant in
    let rest : drop c.loop-call.call-index c.as_slice-call-items.result.now
    ≡ c.call-item.result ∷ drop (c.loop-call.call-index + 1) c.as_slice-call-items.result.now =
    rest_is c.as_slice-call-items.result.now c.loop-call.call-index c.call-item.result c.loop-call-test.true c.call-item.is in
    rw (← c.sent_len.ensures.stays, ← c.as_slice-call-items.ensures, c.in_ok-push.ensures)
    (chain_lost (rw rest at i.chain) c.in_ok-report.ensures.ran
    (sym c.in_ok-report.ensures.lost ∙ c.if-lost.true))

pub returns-clause-ran : goal.returns-clause-ran
returns-clause-ran g c =
    let i = c.loop-call.invariant in
    let past : length c.as_slice-call-items.result.now ≤ c.loop-call.call-index = omega arith in
    let none : drop c.loop-call.call-index c.as_slice-call-items.result.now ≡ [] = grind (arith, common_steps) in
    rw (← c.sent_len.ensures.stays, ← c.as_slice-call-items.ensures) (chain_end (rw none at i.chain))

pub returns-in_err-report-clause-cut : goal.returns-in_err-report-clause-cut
returns-in_err-report-clause-cut g c =
    let i = c.loop-call.invariant in
    let rest : drop c.loop-call.call-index c.as_slice-call-items.result.now
    ≡ c.call-item.result ∷ drop (c.loop-call.call-index + 1) c.as_slice-call-items.result.now =
    rest_is c.as_slice-call-items.result.now c.loop-call.call-index c.call-item.result c.loop-call-test.true c.call-item.is in
    rw (← c.sent_len.ensures.stays, ← c.as_slice-call-items.ensures)
    (on_err _ (chain_cut (rw rest at i.chain) c.in_err-report.ensures.cut))

pub returns-in_err-push-clause-cut : goal.returns-in_err-push-clause-cut
returns-in_err-push-clause-cut g c =
    let i = c.loop-call.invariant in
    let rest : drop c.loop-call.call-index c.as_slice-call-items.result.now
    ≡ c.call-item.result ∷ drop (c.loop-call.call-index + 1) c.as_slice-call-items.result.now =
    rest_is c.as_slice-call-items.result.now c.loop-call.call-index c.call-item.result c.loop-call-test.true c.call-item.is in
    rw (← c.sent_len.ensures.stays, ← c.as_slice-call-items.ensures)
    (on_err _ (chain_cut (rw rest at i.chain) (lost_after c.in_ok-report.ensures.ran)))

pub returns-then-lost-clause-ended : goal.returns-then-lost-clause-ended
returns-then-lost-clause-ended g c =
    let i = c.loop-call.invariant in
    let time = ap (λ (s : CallSettings). s.time) (c.make_call.ensures.settings ∙ i.settings) in
    rw (← c.sent_len.ensures.stays, ← c.as_slice-call-items.ensures)
    (λ opened. going_lost g.M.Maker.state (call_settings c.sent_len.new.client)
    (call_settings c.loop-call.client)
    (server_link_state g.M.Maker.state c.sent_len.new.client.link)
    c.loop-call.client.link c.make_call.new.client.link c.as_slice-call-items.result.now c.loop-call.call-index c.call-item.result c.loop-call.reports c.push.new.self c.in_ok-report.report c.in_ok-report.lost
    i.settings c.if-lost.true c.loop-call-test.true c.call-item.is c.in_ok-push.ensures
    (c.in_ok-report.ensures.called (i.opened opened)) c.in_ok-report.ensures.facts (sym time)
    (i.going opened))

pub returns-clause-ended : goal.returns-clause-ended
returns-clause-ended g c =
    let i = c.loop-call.invariant in
    let time = ap (λ (s : CallSettings). s.time) i.settings in
    let past : length c.as_slice-call-items.result.now ≤ c.loop-call.call-index = omega arith in
    rw (← c.sent_len.ensures.stays, ← c.as_slice-call-items.ensures)
    (λ opened. going_all g.M.Maker.state (call_settings c.sent_len.new.client)
    (server_link_state g.M.Maker.state c.sent_len.new.client.link)
    c.loop-call.client.link c.as_slice-call-items.result.now c.loop-call.call-index c.loop-call.reports
    past (i.opened opened) i.facts (sym time) (i.going opened))

pub returns-then-lost-clause-count : goal.returns-then-lost-clause-count
returns-then-lost-clause-count g c =
    let i = c.loop-call.invariant in
    let ends =
    ends_with c.loop-call.reports c.push.new.self c.in_ok-report.report c.in_ok-report.lost c.in_ok-push.ensures c.in_ok-report.ensures.lost in
    rw (← c.sent_len.ensures.stays)
    (c.in_ok-report.ensures.count ∙ ap (λ (n : ℕ). count_after n c.in_ok-report.lost) i.errors
    ∙ ap (λ (b : Bool). count_after c.sent_len.new.client.errors b) (sym ends))
