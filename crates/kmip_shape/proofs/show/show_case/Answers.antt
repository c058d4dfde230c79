use Rattle.kmip_shape.proofs.Growth.{case_grown}
use Rattle.kmip_shape.proofs.show.show_case.Goals as goal

pub returns : goal.returns
returns g c = case_grown c.args.name.now c.open_case.ensures c.show_into.ensures c.close_case.ensures
