use Rattle.std.proofs.Common.{◌≡◌, sym, ap, ◌∙◌, Some, None, true, false}
use Rattle.kmip_request.specs.Message.{operation_of}
use Rattle.kmip_request_read.specs.Reading.{request_for}
use Rattle.kmip_server_core.specs.Requests.{is_served, call_of}
use Rattle.kmip_server_core.proofs.Answering.{unsupported, unhelped, helped}
use Rattle.kmip_server_core.proofs.server.answer_request.Goals as goal

pub returns-then-not-is_served-clause-answers : goal.returns-then-not-is_served-clause-answers
returns-then-not-is_served-clause-answers g c =
    let refused : is_served (operation_of c.args.payload.now) ≡ false =
    ap is_served (sym c.operation-operation.ensures) ∙ sym c.is_served.ensures
    ∙ c.if-not-is_served.true in
    unsupported c.args.store.now (request_for c.args.payload.now)
    (g.M.Maker.state c.args.maker.now) c.args.stamp.now.time c.refuse.result refused
    (rw c.operation-operation.ensures at c.refuse.ensures)

pub returns-in-Ok-Some-clause-answers : goal.returns-in-Ok-Some-clause-answers
returns-in-Ok-Some-clause-answers g c =
    let is : is_served (operation_of c.args.payload.now) ≡ true =
    ap is_served (sym c.operation-operation.ensures) ∙ sym c.is_served.ensures
    ∙ c.if-not-is_served.false in
    let some : call_of (request_for c.args.payload.now) ≡ Some c.in-Ok-Some.call =
    sym c.in-Ok-Some.ensures ∙ c.in-Ok-Some.field-0-is in
    helped c.args.store.now (request_for c.args.payload.now) c.in-Ok-Some.call
    (g.M.Maker.state c.args.maker.now)
    (g.M.Maker.state c.answer_call.new.maker)
    c.args.stamp.now.time c.answer_call.new.store c.answer_call.result is some c.answer_call.ensures.answers

pub returns-in-Ok-None-clause-answers : goal.returns-in-Ok-None-clause-answers
returns-in-Ok-None-clause-answers g c =
    let is : is_served (operation_of c.args.payload.now) ≡ true =
    ap is_served (sym c.operation-operation.ensures) ∙ sym c.is_served.ensures
    ∙ c.if-not-is_served.false in
    let none : call_of (request_for c.args.payload.now) ≡ None = sym c.in-Ok-None.ensures ∙ c.in-Ok-None.field-0-is in
    unhelped c.args.store.now (request_for c.args.payload.now)
    (g.M.Maker.state c.args.maker.now) c.args.stamp.now.time c.refuse-in-Ok-None.result is none
    (rw c.operation-operation.ensures at c.refuse-in-Ok-None.ensures)
