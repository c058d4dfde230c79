use Rattle.std.proofs.Common.{◌+◌, refl, arith}
use Rattle.kmip_rows.specs.Structures.{structures}
use Rattle.kmip_payloads.specs.Payload.{LEVELS}
use Rattle.kmip_payloads.specs.Laws.{has_levels}
use Rattle.kmip_payloads.proofs.Stands.{same_levels}
use Rattle.kmip_payloads.proofs.laws.levels_suffice.Goals as goal

pub returns-clause-operations : goal.returns-clause-operations
unfolding has_levels structures
returns-clause-operations c = refl

pub returns-clause-same : goal.returns-clause-same
returns-clause-same c =
    λ row items more l. same_levels LEVELS (LEVELS + more) row.request items l (omega arith)
