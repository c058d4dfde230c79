use Rattle.std.proofs.Common.{subst, Result}
use Rattle.kmip_wire.specs.Tree.{Tree}
use Rattle.kmip_client.specs.declared.error.Error.{Error}
use Rattle.kmip_client.specs.Message.{message_at}
use Rattle.kmip_client.specs.Outcome.{Gives, answer_by}
use Rattle.kmip_client.specs.WholeMessage.{whole_answer}
use Rattle.kmip_client.proofs.Exchanges.{seen_itself}
use Rattle.kmip_client.proofs.WholeMessages.{front_message}
use Rattle.kmip_client.proofs.reading.read_whole_message.Goals as goal

pub returns-clause-answer : goal.returns-clause-answer
returns-clause-answer c =
    let P : Result Tree Error → Type 0 =
    λ seen. Gives (answer_by whole_answer (message_at c.args.bytes.now c.args.limit)) seen in
    subst P (seen_itself c.read_front.result.answer) c.read_front.ensures.answer

pub returns-clause-message : goal.returns-clause-message
returns-clause-message c =
    front_message c.args.bytes.now c.args.limit c.read_front.result.answer (returns-clause-answer c)
