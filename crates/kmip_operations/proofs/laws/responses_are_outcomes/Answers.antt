use Rattle.std.proofs.Common.{Some, None}
use Rattle.kmip_client.specs.Operation.{operation_bytes}
use Rattle.kmip_client.specs.Untyped.{identified_answer}
use Rattle.kmip_client.specs.WholeMessage.{whole_bytes, whole_answer}
use Rattle.kmip_plain.specs.declared.payload.PayloadForm.TheVariants.{Tree as AsTree}
use Rattle.kmip_operations.proofs.Replies.{line_same, ending_same}
use Rattle.kmip_operations.proofs.laws.responses_are_outcomes.Goals as goal

pub returns-clause-operation_line : goal.returns-clause-operation_line
returns-clause-operation_line c = λ form settings request rest.
    line_same form (operation_bytes request settings.credential)
    (identified_answer request.operation request.id) settings (Some request) rest

pub returns-clause-operation_ending : goal.returns-clause-operation_ending
returns-clause-operation_ending c = λ settings request rest.
    ending_same (operation_bytes request settings.credential)
    (identified_answer request.operation request.id) settings (Some request) rest

pub returns-clause-message_line : goal.returns-clause-message_line
returns-clause-message_line c = λ settings message rest.
    line_same AsTree (whole_bytes message) whole_answer settings None rest

pub returns-clause-message_ending : goal.returns-clause-message_ending
returns-clause-message_ending c = λ settings message rest.
    ending_same (whole_bytes message) whole_answer settings None rest
