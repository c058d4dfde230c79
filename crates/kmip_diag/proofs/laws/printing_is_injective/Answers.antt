use Rattle.kmip_diag.proofs.Reading.{printed_all-inj}
use Rattle.kmip_diag.proofs.laws.printing_is_injective.Goals as goal

pub returns : goal.returns
returns c = printed_all-inj
