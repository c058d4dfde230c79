use Rattle.kmip_caller.proofs.ReadBack as laws
use Rattle.kmip_caller.proofs.record.records_read_back.Goals as goal

pub returns-clause-back : goal.returns-clause-back
returns-clause-back c = laws.back

pub returns-clause-typed : goal.returns-clause-typed
returns-clause-typed c = laws.typed

pub returns-clause-raw : goal.returns-clause-raw
returns-clause-raw c = laws.raw
