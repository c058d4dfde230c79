use Rattle.std.proofs.Common.{sym}
use Rattle.kmip_wire.proofs.Computed.{is_all, is_none}
use Rattle.kmip_wire.proofs.front.check.Goals as goal

pub returns-in-Some : goal.returns-in-Some
returns-in-Some c = is_all c.args.bytes.now c.in-Some.size (sym c.in-Some.ensures)

pub returns-in-None : goal.returns-in-None
returns-in-None c = is_none c.args.bytes.now (sym c.in-None.ensures)
