use Rattle.kmip_request.proofs.Tables as laws
use Rattle.kmip_request.proofs.laws.tables_stand.Goals as goal

pub returns-clause-roots : goal.returns-clause-roots
returns-clause-roots c = laws.all_tables_stand

pub returns-clause-objects : goal.returns-clause-objects
returns-clause-objects c = laws.all_objects_stand
