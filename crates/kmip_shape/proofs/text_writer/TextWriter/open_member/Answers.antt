use Rattle.kmip_shape.proofs.Growth.{grown}
use Rattle.kmip_shape.proofs.text_writer.TextWriter.open_member.Goals as goal

pub returns : goal.returns
returns c = grown c.put.ensures (grown c.put_text.ensures c.put-2.ensures)
