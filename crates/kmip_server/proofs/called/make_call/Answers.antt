use Rattle.std.proofs.Common.{refl, sym, ◌∙◌}
use Rattle.kmip_client.proofs.Sessions.{on_err}
use Rattle.kmip_server.proofs.Chain.{ran_so, lost_so, lost_before}
use Rattle.kmip_server.proofs.Ones.{called_so, counted_so, settings_so, keeps_so}
use Rattle.kmip_server.proofs.Responses.{response_is_message}
use Rattle.kmip_server.proofs.called.make_call.Goals as goal

pub returns-clause-called : goal.returns-clause-called
returns-clause-called g c =
    called_so response_is_message
    (λ p k b h. let is = c.request_is_message.ensures p k b h in
    record { head = is.0; size = is.1 })
    g.M.Maker.state c.args.client.now c.sent_len-from.new.client c.ask-answer.new.client c.check_link_after_call.new.client c.call_answer.new.client c.args.call.now
    c.ask-answer.result c.sent_len-from.result c.in_ok-call_answer.field-0 c.loses_connection-lost.result c.lacks_memory.result
    c.in_ok-reads_back.ensures c.sent_len-from.ensures.stays c.ask-answer.ensures c.sent_len-from.ensures.sent c.lacks_memory.ensures c.if-lacks_memory.false c.sent_len-from.ensures.facts c.check_link_after_call.ensures.facts
    c.in_ok-check_link_after_call.ensures.after c.check_link_after_call.ensures.stays c.call_answer.ensures.stays c.loses_connection-lost.ensures c.in_ok-call_answer.ensures.report

pub returns-clause-count : goal.returns-clause-count
returns-clause-count g c =
    counted_so c.args.client.now c.sent_len-from.new.client c.ask-answer.new.client c.check_link_after_call.new.client c.call_answer.new.client c.args.call.now c.ask-answer.result c.loses_connection-lost.result c.lacks_memory.result
    c.sent_len-from.ensures.stays c.ask-answer.ensures c.lacks_memory.ensures c.if-lacks_memory.false c.check_link_after_call.ensures.stays c.call_answer.ensures.stays c.loses_connection-lost.ensures

pub returns-then-lacks_memory-clause-keeps : goal.returns-then-lacks_memory-clause-keeps
returns-then-lacks_memory-clause-keeps g c =
    keeps_so g.M.Maker.state c.args.client.now c.sent_len-from.new.client c.ask-answer.new.client c.ask-answer.new.client c.args.call.now c.ask-answer.result c.sent_len-from.ensures.stays c.ask-answer.ensures refl

pub returns-then-lacks_memory-clause-settings : goal.returns-then-lacks_memory-clause-settings
returns-then-lacks_memory-clause-settings g c =
    settings_so g.M.Maker.state c.args.client.now c.sent_len-from.new.client c.ask-answer.new.client c.ask-answer.new.client c.args.call.now c.ask-answer.result c.sent_len-from.ensures.stays c.ask-answer.ensures refl

pub returns-in_err-check_link_after_call-clause-keeps : goal.returns-in_err-check_link_after_call-clause-keeps
returns-in_err-check_link_after_call-clause-keeps g c =
    keeps_so g.M.Maker.state c.args.client.now c.sent_len-from.new.client c.ask-answer.new.client c.check_link_after_call.new.client c.args.call.now c.ask-answer.result c.sent_len-from.ensures.stays c.ask-answer.ensures c.check_link_after_call.ensures.stays

pub returns-in_err-check_link_after_call-clause-settings : goal.returns-in_err-check_link_after_call-clause-settings
returns-in_err-check_link_after_call-clause-settings g c =
    settings_so g.M.Maker.state c.args.client.now c.sent_len-from.new.client c.ask-answer.new.client c.check_link_after_call.new.client c.args.call.now c.ask-answer.result c.sent_len-from.ensures.stays c.ask-answer.ensures c.check_link_after_call.ensures.stays

pub returns-in_err-call_answer-clause-keeps : goal.returns-in_err-call_answer-clause-keeps
returns-in_err-call_answer-clause-keeps g c =
    keeps_so g.M.Maker.state c.args.client.now c.sent_len-from.new.client c.ask-answer.new.client c.call_answer.new.client c.args.call.now c.ask-answer.result c.sent_len-from.ensures.stays c.ask-answer.ensures (c.call_answer.ensures.stays ∙ c.check_link_after_call.ensures.stays)

pub returns-in_err-call_answer-clause-settings : goal.returns-in_err-call_answer-clause-settings
returns-in_err-call_answer-clause-settings g c =
    settings_so g.M.Maker.state c.args.client.now c.sent_len-from.new.client c.ask-answer.new.client c.call_answer.new.client c.args.call.now c.ask-answer.result c.sent_len-from.ensures.stays c.ask-answer.ensures (c.call_answer.ensures.stays ∙ c.check_link_after_call.ensures.stays)

pub returns-clause-keeps : goal.returns-clause-keeps
returns-clause-keeps g c =
    keeps_so g.M.Maker.state c.args.client.now c.sent_len-from.new.client c.ask-answer.new.client c.call_answer.new.client c.args.call.now c.ask-answer.result c.sent_len-from.ensures.stays c.ask-answer.ensures (c.call_answer.ensures.stays ∙ c.check_link_after_call.ensures.stays)

pub returns-clause-settings : goal.returns-clause-settings
returns-clause-settings g c =
    settings_so g.M.Maker.state c.args.client.now c.sent_len-from.new.client c.ask-answer.new.client c.call_answer.new.client c.args.call.now c.ask-answer.result c.sent_len-from.ensures.stays c.ask-answer.ensures (c.call_answer.ensures.stays ∙ c.check_link_after_call.ensures.stays)

pub returns-clause-ran : goal.returns-clause-ran
returns-clause-ran g c =
    ran_so g.M.Maker.state c.args.client.now c.sent_len-from.new.client c.ask-answer.new.client c.check_link_after_call.new.client c.call_answer.new.client c.args.call.now c.ask-answer.result c.sent_len-from.result c.in_ok-call_answer.field-0
    c.sent_len-from.ensures.stays c.ask-answer.ensures c.sent_len-from.ensures.sent c.in_ok-check_link_after_call.ensures.after c.check_link_after_call.ensures.stays c.call_answer.ensures.stays c.in_ok-call_answer.ensures.report

pub returns-clause-room : goal.returns-clause-room
returns-clause-room g c = rw c.in_ok-call_answer.ensures.report (sym c.lacks_memory.ensures ∙ c.if-lacks_memory.false)

pub returns-in_err-reads_back-clause-cut : goal.returns-in_err-reads_back-clause-cut
returns-in_err-reads_back-clause-cut g c = on_err _ (lost_before g.M.Maker.state c.args.client.now c.args.call.now)

pub returns-then-lacks_memory-clause-cut : goal.returns-then-lacks_memory-clause-cut
returns-then-lacks_memory-clause-cut g c =
    lost_so g.M.Maker.state c.args.client.now c.sent_len-from.new.client c.ask-answer.new.client c.ask-answer.new.client c.args.call.now c.ask-answer.result c.sent_len-from.ensures.stays c.ask-answer.ensures refl

pub returns-in_err-check_link_after_call-clause-cut : goal.returns-in_err-check_link_after_call-clause-cut
returns-in_err-check_link_after_call-clause-cut g c =
    on_err _
    (lost_so g.M.Maker.state c.args.client.now c.sent_len-from.new.client c.ask-answer.new.client c.check_link_after_call.new.client c.args.call.now c.ask-answer.result c.sent_len-from.ensures.stays c.ask-answer.ensures c.check_link_after_call.ensures.stays)

pub returns-in_err-call_answer-clause-cut : goal.returns-in_err-call_answer-clause-cut
returns-in_err-call_answer-clause-cut g c =
    on_err _
    (lost_so g.M.Maker.state c.args.client.now c.sent_len-from.new.client c.ask-answer.new.client c.call_answer.new.client c.args.call.now c.ask-answer.result c.sent_len-from.ensures.stays c.ask-answer.ensures (c.call_answer.ensures.stays ∙ c.check_link_after_call.ensures.stays))
