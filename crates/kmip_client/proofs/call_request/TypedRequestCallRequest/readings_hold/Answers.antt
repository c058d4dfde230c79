use Rattle.kmip_request.specs.Message.{operation_of}
use Rattle.kmip_client.proofs.Exchanges.{typed_not_reading, typed_not_writing}
use Rattle.kmip_client.proofs.Headlines.{typed_valid}
use Rattle.kmip_client.proofs.call_request.TypedRequestCallRequest.readings_hold.Goals as goal

pub returns-clause-never_fails : goal.returns-clause-never_fails
returns-clause-never_fails g c = λ r m. typed_not_reading (operation_of r) m

pub returns-clause-valid : goal.returns-clause-valid
returns-clause-valid g c = λ r limit. typed_valid (operation_of r) limit

pub returns-clause-never_writes : goal.returns-clause-never_writes
returns-clause-never_writes g c = λ r m. typed_not_writing (operation_of r) m
