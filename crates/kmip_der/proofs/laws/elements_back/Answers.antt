use Rattle.kmip_der.proofs.Back.{element_read}
use Rattle.kmip_der.proofs.laws.elements_back.Goals as goal

pub returns : goal.returns
returns c = element_read
