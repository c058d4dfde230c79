use Rattle.kmip_words.proofs.JsonLines.{payload_line_is, failure_line_is, error_told_is}
use Rattle.kmip_words.proofs.laws.lines_are_json.Goals as goal

pub returns-clause-payload : goal.returns-clause-payload
returns-clause-payload c = payload_line_is

pub returns-clause-error : goal.returns-clause-error
returns-clause-error c = failure_line_is

pub returns-clause-failure : goal.returns-clause-failure
returns-clause-failure c = error_told_is
