use Rattle.std.proofs.Common.{arith}
use Rattle.kmip_wire.proofs.Written as written
use Rattle.kmip_wire.proofs.laws.written_parses.Goals as goal

pub returns : goal.returns
returns c = λ t b h deep e. written.written_parses t 1 b h (omega arith) (omega arith) e
