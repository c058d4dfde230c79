use Rattle.std.proofs.Common.{length}
use Rattle.kmip_shape.specs.Fits.{AreBytes}
use Rattle.kmip_shape.proofs.item_lists.fits_bytes.Given as goal

-- what is left is of bytes exactly where all is
abbrev pub invariant-loop-rest : goal.invariant-loop-rest
invariant-loop-rest l = AreBytes l.rest → AreBytes l.bytes

abbrev pub decreases-loop-rest : goal.decreases-loop-rest
decreases-loop-rest l = length l.rest
