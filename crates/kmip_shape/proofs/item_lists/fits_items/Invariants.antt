use Rattle.std.proofs.Common.{length}
use Rattle.kmip_shape.specs.Fits.{vals_fit}
use Rattle.kmip_shape.specs.Shape.{NoCase}
use Rattle.kmip_shape.specs.Writes.{vals}
use Rattle.kmip_shape.proofs.item_lists.fits_items.Given as goal

-- what is left fits exactly where all does
abbrev pub invariant-loop-rest : goal.invariant-loop-rest
invariant-loop-rest g l = vals_fit (vals g.T.Item.val l.rest) NoCase g.T.Item.shape
    → vals_fit (vals g.T.Item.val l.items) NoCase g.T.Item.shape

abbrev pub decreases-loop-rest : goal.decreases-loop-rest
decreases-loop-rest g l = length l.rest
