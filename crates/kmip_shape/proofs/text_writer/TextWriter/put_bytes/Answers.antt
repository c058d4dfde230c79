use Rattle.kmip_shape.proofs.Growth.{grown}
use Rattle.kmip_shape.proofs.text_writer.TextWriter.put_bytes.Goals as goal

pub returns : goal.returns
returns c = grown c.reserve.ensures (grown c.put_bytes_mark.ensures (grown c.put_digits.ensures c.put.ensures))
