use Rattle.kmip_shape.proofs.Growth.{grown}
use Rattle.kmip_shape.proofs.text_writer.TextWriter.put_control.Goals as goal

pub returns : goal.returns
returns c = grown c.put_control_mark.ensures c.put_block.ensures
