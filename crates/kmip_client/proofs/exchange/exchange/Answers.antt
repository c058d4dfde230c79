use Rattle.std.proofs.Common.{arith}
use Rattle.kmip_client.proofs.Exchanges.{send_stopped, send_not_reading, read_ended, read_caused, fails_reading, error_is, read_not_writing}
use Rattle.kmip_client.proofs.exchange.exchange.Goals as goal

pub returns-in-Err-clause-exchange : goal.returns-in-Err-clause-exchange
returns-in-Err-clause-exchange g c = λ tells.
    send_stopped c.args.bytes.now
    (g.R.CallRequest.kind.reads (g.R.CallRequest.request c.args.request.now))
    c.args.config.now.max_bytes _ c.in-Err.error
    (c.in-Err.ensures.part tells) c.in-Err.ensures.err

pub returns-clause-exchange : goal.returns-clause-exchange
returns-clause-exchange g c = λ tells.
    read_ended c.args.bytes.now (g.R.CallRequest.kind.reads
    (g.R.CallRequest.request c.args.request.now))
    c.args.config.now.max_bytes c.read_message-read.new.taken.items c.read_message-read.result _
    c.send.ensures.keeps (c.in-Ok.ensures.ok tells)
    (c.read_message-read.ensures.reads (rw c.send.ensures.keeps.tells tells))
    c.read_message-read.ensures.fault
    (rw c.deref.ensures.value at c.answer_taken.ensures)

pub returns-clause-caused : goal.returns-clause-caused
returns-clause-caused g c =
    read_caused (g.L.Link.state c.args.link.now).faults
    (g.L.Link.state c.read_message-read.new.link).faults c.args.bytes.now
    (g.R.CallRequest.kind.reads (g.R.CallRequest.request c.args.request.now))
    c.args.config.now.max_bytes c.read_message-read.new.taken.items c.read_message-read.result _
    c.read_message-read.ensures.read
    (λ is. omega (arith, c.send.ensures.keeps.faults, c.read_message-read.ensures.fault is))
    (rw c.deref.ensures.value at c.answer_taken.ensures)

pub returns-in-Err-clause-reading : goal.returns-in-Err-clause-reading
returns-in-Err-clause-reading g c = λ tells is. absurd (send_not_reading c.in-Err.error c.in-Err.ensures.err is)

pub returns-clause-reading : goal.returns-clause-reading
returns-clause-reading g c = λ tells is.
    fails_reading g.L.Link.state c.args.link.now c.send.new.link c.read_message-read.new.link c.args.bytes.now (g.R.CallRequest.kind.reads (g.R.CallRequest.request c.args.request.now)) c.args.config.now.max_bytes c.read_message-read.new.taken.items c.read_message-read.result _
    (c.readings_hold.ensures.never_fails (g.R.CallRequest.request c.args.request.now))
    c.send.ensures.keeps (c.in-Ok.ensures.ok tells) c.read_message-read.ensures.keeps
    (c.read_message-read.ensures.reads (rw c.send.ensures.keeps.tells tells))
    c.read_message-read.ensures.fault (rw c.deref.ensures.value at c.answer_taken.ensures) is

pub returns-in-Err-clause-writing : goal.returns-in-Err-clause-writing
returns-in-Err-clause-writing g c = λ tells is. c.in-Err.ensures.failing (error_is is) tells

pub returns-clause-writing : goal.returns-clause-writing
returns-clause-writing g c = λ tells is.
    absurd (read_not_writing (g.R.CallRequest.kind.reads (g.R.CallRequest.request c.args.request.now))
    c.read_message-read.new.taken.items c.read_message-read.result _
    (c.readings_hold.ensures.never_writes (g.R.CallRequest.request c.args.request.now))
    (rw c.deref.ensures.value at c.answer_taken.ensures) is)
