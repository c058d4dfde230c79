use Rattle.std.proofs.Common.{refl}
use Rattle.kmip_key_files.proofs.curve_names.table.Goals as goal

pub returns : goal.returns
returns c = refl
