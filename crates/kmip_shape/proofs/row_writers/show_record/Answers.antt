use Rattle.std.proofs.Common.{refl, false}
use Rattle.kmip_shape.proofs.Growth.{grown}
use Rattle.kmip_shape.proofs.row_writers.show_record.Goals as goal

pub returns : goal.returns
returns g c = grown c.put.ensures (grown (c.show.ensures false refl) c.put-2.ensures)
