use Rattle.std.proofs.Common.{refl}
use Rattle.kmip_encodings.specs.Masks.{cryptographic_usage_bits}
use Rattle.kmip_encodings.proofs.masks.cryptographic_usage_bits.Goals as goal

pub returns : goal.returns
unfolding cryptographic_usage_bits
returns c = refl
