use Rattle.std.proofs.Common.{subst, Result}
use Rattle.std.specs.Prelude.{option_map}
use Rattle.kmip_wire.specs.Tree.{Tree}
use Rattle.kmip_client.specs.declared.error.Error.{Error}
use Rattle.kmip_client.specs.Message.{message_at}
use Rattle.kmip_client.specs.Outcome.{Gives, answer_by}
use Rattle.kmip_client.specs.Untyped.{identified_answer}
use Rattle.kmip_client.proofs.Exchanges.{seen_itself}
use Rattle.kmip_client.proofs.reading.read_operation_response.Goals as goal

pub returns-clause-answer : goal.returns-clause-answer
returns-clause-answer c =
    let P : Result Tree Error → Type 0 =
    λ seen. Gives (answer_by (identified_answer c.args.operation (option_map (λ b. b.now) c.args.id)) (message_at c.args.bytes.now c.args.limit)) seen in
    subst P (seen_itself c.read_front.result.answer) c.read_front.ensures.answer
