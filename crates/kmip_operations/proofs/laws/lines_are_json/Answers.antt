use Rattle.kmip_operations.proofs.JsonLines.{tree_reads}
use Rattle.kmip_operations.proofs.laws.lines_are_json.Goals as goal

pub returns-clause-tree : goal.returns-clause-tree
returns-clause-tree c = λ form tree first h. tree_reads form tree (c.payload_numbers.ensures form tree h)

pub returns-clause-error : goal.returns-clause-error
returns-clause-error c = λ form. c.lines_are_json.ensures.failure
