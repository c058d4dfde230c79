use Rattle.kmip_shape.proofs.Growth.{grown}
use Rattle.kmip_shape.proofs.row_writers.ChoosingShowRows.show.Goals as goal

pub returns : goal.returns
returns g c = λ a e. grown (c.show-after.ensures.text a e) (c.show.ensures _ (c.show-after.ensures.after a e))
