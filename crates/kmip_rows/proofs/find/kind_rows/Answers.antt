use Rattle.std.proofs.Common.{refl}
use Rattle.kmip_rows.specs.Kinds.{kinds}
use Rattle.kmip_rows.proofs.find.kind_rows.Goals as goal

pub returns : goal.returns
unfolding kinds
returns c = refl
