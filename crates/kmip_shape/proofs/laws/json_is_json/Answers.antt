use Rattle.kmip_shape.specs.Shape.{NoCase}
use Rattle.kmip_shape.proofs.Json.{value_is}
use Rattle.kmip_shape.proofs.laws.json_is_json.Goals as goal

pub returns : goal.returns
returns c = λ shape val fits. value_is val NoCase shape fits
