use Rattle.kmip_client.specs.Message.{message_at}
use Rattle.kmip_client.specs.Outcome.{answer_of, answer_with_payload}
use Rattle.kmip_operations.proofs.AnyPayloads.{unread_due}
use Rattle.kmip_operations.proofs.fetched.is_past_tables.Goals as goal

pub returns : goal.returns
returns c =
    unread_due c.says_unread.result
    (answer_of c.args.operation (message_at c.args.response.now c.args.settings.now.limit))
    (answer_with_payload c.read_response-answer.result.answer)
    (rw c.limit.ensures at c.read_response-answer.ensures.answer)
    c.says_unread.ensures.unread c.says_unread.ensures.memory
