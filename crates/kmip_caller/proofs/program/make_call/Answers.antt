use Rattle.kmip_caller.proofs.Asked.{asked_clash, kept_for}
use Rattle.kmip_caller.proofs.Exchanges.{part_unsent, on_err}
use Rattle.kmip_caller.proofs.program.make_call.Goals as goal

pub exchange-requires : goal.exchange-requires
exchange-requires g c = rw c.in-Some.is at c.in_ok-requested.ensures

pub returns-in_err-requested-clause-broken_off : goal.returns-in_err-requested-clause-broken_off
returns-in_err-requested-clause-broken_off g c =
    on_err c.from_residual.result
    (λ exchange given. part_unsent c.args.order.now.settings.limit exchange (g.W.Sink.state c.args.wire.now)
    (g.S.Source.state c.args.source.now))

pub returns-in_err-words-in-Some-clause-broken_off : goal.returns-in_err-words-in-Some-clause-broken_off
returns-in_err-words-in-Some-clause-broken_off g c =
    on_err c.from_residual-in_err-words-in-Some.result
    (λ exchange given. part_unsent c.args.order.now.settings.limit exchange (g.W.Sink.state c.args.wire.now)
    (g.S.Source.state c.args.source.now))

pub returns-in_err-end-in-Some-clause-broken_off : goal.returns-in_err-end-in-Some-clause-broken_off
returns-in_err-end-in-Some-clause-broken_off g c =
    on_err c.from_residual-in_err-end-in-Some.result c.in_err-end-in-Some.ensures.broken_off

pub returns-in_err-end-in-Some-clause-wire : goal.returns-in_err-end-in-Some-clause-wire
returns-in_err-end-in-Some-clause-wire g c =
    asked_clash c.args.order.now _ _ (rw c.in-Some.is at c.in_ok-requested.ensures)

pub returns-in_err-end-in-Some-clause-source : goal.returns-in_err-end-in-Some-clause-source
returns-in_err-end-in-Some-clause-source g c =
    asked_clash c.args.order.now _ _ (rw c.in-Some.is at c.in_ok-requested.ensures)

pub returns-in_ok-end-in-Some-clause-wire : goal.returns-in_ok-end-in-Some-clause-wire
returns-in_ok-end-in-Some-clause-wire g c =
    asked_clash c.args.order.now _ _ (rw c.in-Some.is at c.in_ok-requested.ensures)

pub returns-in_ok-end-in-Some-clause-source : goal.returns-in_ok-end-in-Some-clause-source
returns-in_ok-end-in-Some-clause-source g c =
    asked_clash c.args.order.now _ _ (rw c.in-Some.is at c.in_ok-requested.ensures)

pub returns-in_ok-end-in-Some-clause-words : goal.returns-in_ok-end-in-Some-clause-words
returns-in_ok-end-in-Some-clause-words g c =
    kept_for c.args.order.now _ _ _ (rw c.in-Some.is at c.in_ok-requested.ensures) c.in_ok-words-in-Some.ensures
