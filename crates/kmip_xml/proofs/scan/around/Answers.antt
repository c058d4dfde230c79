use Rattle.std.proofs.lemmas.Str.Pattern.{split_once_first}
use Rattle.kmip_xml.proofs.Fronts.{cut}
use Rattle.kmip_xml.proofs.scan.around.Goals as goal

pub returns : goal.returns
returns c =
    cut c.args.mark c.args.text.now c.split_once.result
    (split_once_first c.args.mark c.args.text.now c.split_once.result c.split_once.ensures.cases c.requires)
