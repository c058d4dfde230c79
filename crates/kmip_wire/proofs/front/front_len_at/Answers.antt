use Rattle.kmip_wire.proofs.Computed.{fronts}
use Rattle.kmip_wire.proofs.front.front_len_at.Goals as goal

pub returns : goal.returns
returns c = fronts c.args.level c.args.bytes.now c.front_size.result c.requires c.front_size.ensures
