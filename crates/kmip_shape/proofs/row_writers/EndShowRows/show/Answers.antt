use Rattle.kmip_shape.proofs.Growth.{nothing}
use Rattle.kmip_shape.proofs.row_writers.EndShowRows.show.Goals as goal

pub returns : goal.returns
returns c = λ a e. nothing
