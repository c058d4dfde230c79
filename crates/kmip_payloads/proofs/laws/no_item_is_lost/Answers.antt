use Rattle.kmip_payloads.proofs.Stands.{no_item_lost}
use Rattle.kmip_payloads.proofs.laws.no_item_is_lost.Goals as goal

pub returns : goal.returns
returns c = no_item_lost
