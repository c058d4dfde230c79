use Rattle.kmip_xml.proofs.Fronts.{space_ends}
use Rattle.kmip_xml.proofs.scan.trimmed.Goals as goal

pub split_at-requires : goal.split_at-requires
split_at-requires c = rw (c.space_len.ensures, c.as_bytes.ensures.value) (space_ends c.args.text.now c.utf8.text)
