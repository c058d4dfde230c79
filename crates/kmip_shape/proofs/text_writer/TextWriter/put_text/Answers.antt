use Rattle.kmip_shape.proofs.Growth.{grown}
use Rattle.kmip_shape.proofs.text_writer.TextWriter.put_text.Goals as goal

pub returns : goal.returns
returns c = grown c.put.ensures (grown c.put_characters.ensures c.put-2.ensures)
