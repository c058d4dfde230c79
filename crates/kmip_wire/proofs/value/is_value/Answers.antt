use Rattle.std.proofs.Common.{take}
use Rattle.kmip_wire.proofs.Values.{says_text}
use Rattle.kmip_wire.proofs.value.is_value.Goals as goal

pub returns-in-TextString : goal.returns-in-TextString
returns-in-TextString c = says_text c.is_text.result
    (take c.args.size c.args.padded.now) c.args.kind c.in-TextString.is c.is_text.ensures
