use Rattle.std.proofs.Common.{refl}
use Rattle.kmip_der.proofs.curves.table.Goals as goal

pub returns : goal.returns
returns c = refl
