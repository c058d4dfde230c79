use Rattle.kmip_client.proofs.WholeMessages.{whole_never_fails, whole_never_writes, whole_valid}
use Rattle.kmip_client.proofs.whole_message.MessageRequestCallRequest.readings_hold.Goals as goal

pub returns-clause-never_fails : goal.returns-clause-never_fails
returns-clause-never_fails c = λ r m. whole_never_fails m

pub returns-clause-valid : goal.returns-clause-valid
returns-clause-valid c = λ r limit. whole_valid limit

pub returns-clause-never_writes : goal.returns-clause-never_writes
returns-clause-never_writes c = λ r m. whole_never_writes m
