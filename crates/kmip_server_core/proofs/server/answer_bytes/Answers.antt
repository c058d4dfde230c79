use Rattle.std.proofs.Common.{Some, Err, inl, inr, ap}
use Rattle.kmip_request_read.specs.Reading.{request_for}
use Rattle.kmip_server_core.proofs.Answering.{read_bytes, invalid_bytes}
use Rattle.kmip_server_core.proofs.server.answer_bytes.Goals as goal

pub returns-in-Ok-clause-answers : goal.returns-in-Ok-clause-answers
returns-in-Ok-clause-answers g c =
    read_bytes c.args.store.now c.args.request.now (Some (request_for c.in-Ok.payload))
    (g.M.Maker.state c.args.maker.now)
    (g.M.Maker.state c.answer_request.new.maker)
    c.args.stamp.now.time c.answer_request.new.store c.answer_request.result c.in-Ok.ensures.value
    c.answer_request.ensures.answers

pub returns-in-Err-Malformed-clause-answers : goal.returns-in-Err-Malformed-clause-answers
returns-in-Err-Malformed-clause-answers g c =
    invalid_bytes c.args.store.now c.args.request.now
    (g.M.Maker.state c.args.maker.now) c.args.stamp.now.time c.refuse.result
    (c.in-Err-Malformed.ensures.unread (inl (ap Err c.in-Err-Malformed.field-0-is)))
    c.refuse.ensures

pub returns-in-Err-NotCanonical-clause-answers : goal.returns-in-Err-NotCanonical-clause-answers
returns-in-Err-NotCanonical-clause-answers g c =
    invalid_bytes c.args.store.now c.args.request.now
    (g.M.Maker.state c.args.maker.now) c.args.stamp.now.time c.refuse-in-Err-NotCanonical.result
    (c.in-Err-NotCanonical.ensures.unread (inr (ap Err c.in-Err-NotCanonical.field-0-is)))
    c.refuse-in-Err-NotCanonical.ensures
