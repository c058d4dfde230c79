use Rattle.kmip_client.proofs.Successes.{never_fails, never_writes, tree_valid}
use Rattle.kmip_client.proofs.operation.OperationRequestCallRequest.readings_hold.Goals as goal

pub returns-clause-never_fails : goal.returns-clause-never_fails
returns-clause-never_fails c = λ r m. never_fails r.operation r.id m

pub returns-clause-valid : goal.returns-clause-valid
returns-clause-valid c = λ r limit. tree_valid r.operation r.id limit

pub returns-clause-never_writes : goal.returns-clause-never_writes
returns-clause-never_writes c = λ r m. never_writes r.operation r.id m
