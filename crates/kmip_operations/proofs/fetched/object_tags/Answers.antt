use Rattle.std.proofs.Common.{refl}
use Rattle.kmip_operations.proofs.fetched.object_tags.Goals as goal

pub returns : goal.returns
returns c = refl
