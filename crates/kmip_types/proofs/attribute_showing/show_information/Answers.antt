use Rattle.std.specs.Prelude.{codes}
use Rattle.kmip_shape.proofs.Growth.{case_grown}
use Rattle.kmip_types.proofs.attribute_showing.show_information.Goals as goal

pub returns : goal.returns
returns c = case_grown (codes "ApplicationSpecificInformation")
    c.open_case.ensures c.show_record.ensures c.close_case.ensures
