use Rattle.kmip_xml.proofs.Fronts.{stripped}
use Rattle.kmip_xml.proofs.scan.after.Goals as goal

pub returns : goal.returns
returns c = stripped c.args.front.now c.args.text.now c.strip_prefix.result c.strip_prefix.ensures.cases
