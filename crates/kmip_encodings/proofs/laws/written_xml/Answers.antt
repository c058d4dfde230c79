use Rattle.kmip_encodings.proofs.Xml.{tree_is}
use Rattle.kmip_encodings.proofs.laws.written_xml.Goals as goal

pub returns : goal.returns
returns c = tree_is
