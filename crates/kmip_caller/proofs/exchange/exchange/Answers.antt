use Rattle.std.proofs.Common.{rules, refl}
use Rattle.kmip_caller.proofs.Exchanges.{not_sent_or, sent_or, write_fault_or, read_fault_or, part_unsent, part_sent, on_err}
use Rattle.kmip_caller.proofs.exchange.exchange.Goals as goal

pub returns-in_default-clause-made : goal.returns-in_default-clause-made
returns-in_default-clause-made g c =
    let end = c.failed.ensures in
    not_sent_or c.args.order.now c.args.requested.now.asked c.new-response.result.items
    c.in_ok-text.text
    (g.W.Sink.state c.args.wire.now) (g.S.Source.state c.args.source.now) c.failed.result
    (rw c.in_default.is at c.requires) (search rules) c.in_ok-text.ensures
    end.line end.ending end.response

pub returns-in-Ok-clause-made : goal.returns-in-Ok-clause-made
returns-in-Ok-clause-made g c =
    let ensures = rw (c.limit-limit.ensures, c.as_slice.ensures) at c.in-Ok.ensures in
    let end = c.answered.ensures in
    sent_or c.args.order.now c.args.requested.now.asked c.in-Some.request
    c.transfer.new.response.items
    (g.W.Sink.state c.args.wire.now) (g.W.Sink.state c.transfer.new.wire)
    (g.S.Source.state c.args.source.now) (g.S.Source.state c.transfer.new.source)
    c.answered.result (rw c.in-Some.is at c.requires) ensures.sent ensures.one ensures.taken
    end.line end.ending end.response

pub returns-in-Err-WriteFault-clause-made : goal.returns-in-Err-WriteFault-clause-made
returns-in-Err-WriteFault-clause-made g c =
    let ensures = rw c.as_slice.ensures at c.in-Err-WriteFault.ensures in
    let end = c.failed-in-Err-WriteFault.ensures in
    write_fault_or c.args.order.now c.args.requested.now.asked c.in-Some.request
    c.in_ok-text-in-Err-WriteFault.text
    (g.W.Sink.state c.args.wire.now) (g.W.Sink.state c.transfer.new.wire)
    (g.S.Source.state c.args.source.now) (g.S.Source.state c.transfer.new.source)
    c.failed-in-Err-WriteFault.result (rw c.in-Some.is at c.requires) c.in_ok-text-in-Err-WriteFault.ensures
    (ensures.write_fault (rw c.in-Err-WriteFault.field-0-is refl)) end.line end.ending end.response

pub returns-in-Err-ReadFault-clause-made : goal.returns-in-Err-ReadFault-clause-made
returns-in-Err-ReadFault-clause-made g c =
    let ensures = rw (c.limit-limit.ensures, c.as_slice.ensures) at c.in-Err-ReadFault.ensures in
    let end = c.failed-in-Err-ReadFault.ensures in
    read_fault_or c.args.order.now c.args.requested.now.asked c.in-Some.request
    c.in_ok-text-in-Err-ReadFault.text
    (g.W.Sink.state c.args.wire.now) (g.W.Sink.state c.transfer.new.wire)
    (g.S.Source.state c.args.source.now) (g.S.Source.state c.transfer.new.source)
    c.failed-in-Err-ReadFault.result (rw c.in-Some.is at c.requires) c.in_ok-text-in-Err-ReadFault.ensures
    (ensures.read_fault (rw c.in-Err-ReadFault.field-0-is refl)) end.line end.ending end.response

pub returns-in_err-text-clause-broken_off : goal.returns-in_err-text-clause-broken_off
returns-in_err-text-clause-broken_off g c =
    on_err c.from_residual.result (λ exchange given. part_unsent c.args.order.now.settings.limit exchange
    (g.W.Sink.state c.args.wire.now) (g.S.Source.state c.args.source.now))

pub returns-in_default-clause-broken_off : goal.returns-in_default-clause-broken_off
returns-in_default-clause-broken_off g c =
    on_err c.failed.result (λ exchange given. part_unsent c.args.order.now.settings.limit exchange
    (g.W.Sink.state c.args.wire.now) (g.S.Source.state c.args.source.now))

pub returns-in-Ok-clause-broken_off : goal.returns-in-Ok-clause-broken_off
returns-in-Ok-clause-broken_off g c =
    let ensures = rw (c.limit-limit.ensures, c.as_slice.ensures) at c.transfer.ensures in
    on_err c.answered.result
    (part_sent c.args.order.now c.args.requested.now.asked c.in-Some.request
    (g.W.Sink.state c.args.wire.now) (g.W.Sink.state c.transfer.new.wire)
    (g.S.Source.state c.args.source.now) (g.S.Source.state c.transfer.new.source)
    (rw c.in-Some.is at c.requires) ensures.sent_part ensures.taken_part)

pub returns-in-Err-WriteFault-clause-broken_off : goal.returns-in-Err-WriteFault-clause-broken_off
returns-in-Err-WriteFault-clause-broken_off g c =
    let ensures = rw (c.limit-limit.ensures, c.as_slice.ensures) at c.transfer.ensures in
    on_err c.failed-in-Err-WriteFault.result
    (part_sent c.args.order.now c.args.requested.now.asked c.in-Some.request
    (g.W.Sink.state c.args.wire.now) (g.W.Sink.state c.transfer.new.wire)
    (g.S.Source.state c.args.source.now) (g.S.Source.state c.transfer.new.source)
    (rw c.in-Some.is at c.requires) ensures.sent_part ensures.taken_part)

pub returns-in-Err-ReadFault-clause-broken_off : goal.returns-in-Err-ReadFault-clause-broken_off
returns-in-Err-ReadFault-clause-broken_off g c =
    let ensures = rw (c.limit-limit.ensures, c.as_slice.ensures) at c.transfer.ensures in
    on_err c.failed-in-Err-ReadFault.result
    (part_sent c.args.order.now c.args.requested.now.asked c.in-Some.request
    (g.W.Sink.state c.args.wire.now) (g.W.Sink.state c.transfer.new.wire)
    (g.S.Source.state c.args.source.now) (g.S.Source.state c.transfer.new.source)
    (rw c.in-Some.is at c.requires) ensures.sent_part ensures.taken_part)

pub returns-in_err-text-in-Err-WriteFault-clause-broken_off : goal.returns-in_err-text-in-Err-WriteFault-clause-broken_off
returns-in_err-text-in-Err-WriteFault-clause-broken_off g c =
    let ensures = rw (c.limit-limit.ensures, c.as_slice.ensures) at c.transfer.ensures in
    on_err c.from_residual-in_err-text-in-Err-WriteFault.result
    (part_sent c.args.order.now c.args.requested.now.asked c.in-Some.request
    (g.W.Sink.state c.args.wire.now) (g.W.Sink.state c.transfer.new.wire)
    (g.S.Source.state c.args.source.now) (g.S.Source.state c.transfer.new.source)
    (rw c.in-Some.is at c.requires) ensures.sent_part ensures.taken_part)

pub returns-in_err-text-in-Err-ReadFault-clause-broken_off : goal.returns-in_err-text-in-Err-ReadFault-clause-broken_off
returns-in_err-text-in-Err-ReadFault-clause-broken_off g c =
    let ensures = rw (c.limit-limit.ensures, c.as_slice.ensures) at c.transfer.ensures in
    on_err c.from_residual-in_err-text-in-Err-ReadFault.result
    (part_sent c.args.order.now c.args.requested.now.asked c.in-Some.request
    (g.W.Sink.state c.args.wire.now) (g.W.Sink.state c.transfer.new.wire)
    (g.S.Source.state c.args.source.now) (g.S.Source.state c.transfer.new.source)
    (rw c.in-Some.is at c.requires) ensures.sent_part ensures.taken_part)

pub returns-clause-broken_off : goal.returns-clause-broken_off
returns-clause-broken_off g c =
    let ensures = rw (c.limit-limit.ensures, c.as_slice.ensures) at c.transfer.ensures in
    part_sent c.args.order.now c.args.requested.now.asked c.in-Some.request
    (g.W.Sink.state c.args.wire.now) (g.W.Sink.state c.transfer.new.wire)
    (g.S.Source.state c.args.source.now) (g.S.Source.state c.transfer.new.source)
    (rw c.in-Some.is at c.requires) ensures.sent_part ensures.taken_part
