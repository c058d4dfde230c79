use Rattle.kmip_shape.specs.Shape.{NoCase}
use Rattle.kmip_shape.proofs.Selected.{selected}
use Rattle.kmip_shape.proofs.laws.read_selected.Goals as goal

pub returns : goal.returns
returns c = λ shape outer tag val tree once written read. selected val NoCase shape outer tag tree once written read
