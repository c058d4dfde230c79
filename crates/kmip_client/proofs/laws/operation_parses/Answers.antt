use Rattle.kmip_client.proofs.Operations.{each_parses}
use Rattle.kmip_client.proofs.laws.operation_parses.Goals as goal

pub returns : goal.returns
returns c = each_parses
