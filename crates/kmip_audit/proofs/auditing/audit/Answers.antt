use Rattle.std.proofs.Common.{sym, ◌∙◌}
use Rattle.kmip_audit.proofs.Pairing.{entry_smaller, entry_on, report_done}
use Rattle.kmip_audit.proofs.auditing.audit.Goals as goal

pub frames-smaller : goal.frames-smaller
frames-smaller c =
    rw (c.after_frame-asked.ensures, c.after_frame-answered.ensures)
    (entry_smaller c.frames.asked.now c.frames.answered.now _ _ (sym c.front_frame-request.ensures)
    (sym c.front_frame-response.ensures) (sym c.are_none.ensures ∙ c.if-are_none.false))

pub frames-preserved : goal.frames-preserved
frames-preserved c =
    rw (c.after_frame-asked.ensures, c.after_frame-answered.ensures, c.in_ok-push.ensures, c.in_ok-entry_for.ensures)
    (entry_on c.args.sent.now c.args.received.now c.frames.asked.now c.frames.answered.now _ _ c.frames.entries c.frames.invariant
    (sym c.front_frame-request.ensures) (sym c.front_frame-response.ensures)
    (sym c.are_none.ensures ∙ c.if-are_none.false))

pub returns-then-are_none : goal.returns-then-are_none
returns-then-are_none c =
    report_done c.args.sent.now c.args.received.now c.frames.asked.now c.frames.answered.now _ _ c.frames.entries c.end_of.result c.end_of-then-are_none.result c.frames.invariant
    c.front_frame-request.ensures c.front_frame-response.ensures
    (sym c.are_none.ensures ∙ c.if-are_none.true)
    c.end_of.ensures c.end_of-then-are_none.ensures
