use Rattle.kmip_plain.specs.Payload.{payload_text}
use Rattle.kmip_operations.proofs.JsonLines.{value_in_utf8}
use Rattle.kmip_operations.proofs.answer.push_tree.Goals as goal

pub returns-clause-utf8 : goal.returns-clause-utf8
returns-clause-utf8 c = value_in_utf8 (payload_text c.args.form c.args.tree.now) c.in_ok-push_payload.ensures.utf8
