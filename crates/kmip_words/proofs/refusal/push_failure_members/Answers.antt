use Rattle.kmip_words.specs.Refusal.{reason_of, message_of, reason_member, message_member}
use Rattle.kmip_words.proofs.Added.{two_added}
use Rattle.kmip_words.proofs.refusal.push_failure_members.Goals as goal

pub returns : goal.returns
returns c =
    two_added c.push_message.result c.args.line.now c.push_reason.new.line c.push_message.new.line
    (reason_member (reason_of c.args.response.now)) (message_member (message_of c.args.response.now))
    (rw c.reason_of.ensures at c.in_ok-push_reason.ensures)
    (rw c.message_of.ensures at c.push_message.ensures)
