use Rattle.kmip_wire.proofs.Written as written
use Rattle.kmip_wire.proofs.laws.one_text.Goals as goal

pub returns : goal.returns
returns c = written.one_text
