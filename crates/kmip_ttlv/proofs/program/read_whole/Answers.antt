use Rattle.kmip_ttlv.proofs.Whole.{longer}
use Rattle.kmip_ttlv.proofs.program.read_whole.Goals as goal

pub returns-else-size-bytes : goal.returns-else-size-bytes
returns-else-size-bytes c =
    let found = c.in-Ok.ensures.found in
    longer c.one_tree.ensures.length _ _ c.args.bytes.now found.0 c.if-size-bytes.false found.1
