use Rattle.std.proofs.Common.{sym, ◌∙◌}
use Rattle.kmip_server_core.proofs.Requested.{same_read, other_bytes}
use Rattle.kmip_server_core.proofs.recognize.call_of.Goals as goal

pub returns-then-same : goal.returns-then-same
returns-then-same c = same_read c.args.bytes.now c.args.payload.now c.in-Some.call c.requires.read
    (c.in_ok-same-in-Some.ensures.same c.if-same.true)

pub returns-else-same : goal.returns-else-same
returns-else-same c =
    other_bytes c.args.bytes.now c.args.payload.now c.args.credential c.in-Some.call
    (sym c.in_ok-found.ensures ∙ c.in-Some.is) c.requires.written
    (c.in_ok-same-in-Some.ensures.other c.if-same.false)
