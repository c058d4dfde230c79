use Rattle.std.proofs.Common.{refl}
use Rattle.kmip_encodings.specs.Masks.{storage_status_bits}
use Rattle.kmip_encodings.proofs.masks.storage_status_bits.Goals as goal

pub returns : goal.returns
unfolding storage_status_bits
returns c = refl
