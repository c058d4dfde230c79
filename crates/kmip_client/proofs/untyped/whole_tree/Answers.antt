use Rattle.kmip_client.proofs.Tagged.{no_tree, no_whole, whole_is}
use Rattle.kmip_client.proofs.untyped.whole_tree.Goals as goal

pub returns-then-size-m : goal.returns-then-size-m
returns-then-size-m c = whole_is c.args.m.now c.in-Ok.size c.in-Ok.tree c.if-size-m.true c.in-Ok.ensures.found.1

pub returns-else-size-m : goal.returns-else-size-m
returns-else-size-m c =
    no_whole c.args.m.now c.in-Ok.size c.in-Ok.tree c.in-Ok.ensures.found.0 c.if-size-m.false c.in-Ok.ensures.found.1

pub returns-in-Err-Malformed : goal.returns-in-Err-Malformed
returns-in-Err-Malformed c =
    no_tree c.in-Err-Malformed.field-0 c.args.m.now c.in-Err-Malformed.field-0-is c.in-Err-Malformed.ensures.found
