use Rattle.std.proofs.Math.Facts.{Fits-lt-pow}
use Rattle.kmip_wire.proofs.tree.byte_ranges.Goals as goal

pub returns : goal.returns
returns c = λ i. Fits-lt-pow (c.type_inv.bytes i)
