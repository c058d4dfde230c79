use Rattle.std.proofs.Common.{refl}
use Rattle.kmip_rows.specs.Structures.{structures}
use Rattle.kmip_rows.proofs.find.structure_rows.Goals as goal

pub returns : goal.returns
unfolding structures
returns c = refl
