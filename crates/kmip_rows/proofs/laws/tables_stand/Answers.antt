use Rattle.kmip_rows.proofs.Computed.{operations_hold, structures_hold}
use Rattle.kmip_rows.proofs.laws.tables_stand.Goals as goal

pub returns : goal.returns
returns c = record { operations = operations_hold; structures = structures_hold }
