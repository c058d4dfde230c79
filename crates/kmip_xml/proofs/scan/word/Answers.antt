use Rattle.kmip_xml.proofs.Fronts.{word_ends}
use Rattle.kmip_xml.proofs.scan.word.Goals as goal

pub split_at-requires : goal.split_at-requires
split_at-requires c = rw (c.word_len.ensures, c.as_bytes.ensures.value) (word_ends c.args.text.now c.utf8.text)
