use Rattle.std.proofs.Common.{◌≡◌, arith}
use Rattle.std.proofs.lemmas.Grind.{common_steps}
use Rattle.kmip_wire.specs.Sees.{tree_of_node}
use Rattle.kmip_wire.specs.Tree.{scalar}
use Rattle.kmip_xml.specs.Scalars.{scalar_of}
use Rattle.kmip_xml.proofs.Options.{map_some, map_none}
use Rattle.kmip_xml.proofs.start.scalar_tree.Goals as goal

pub returns-in-Some-2 : goal.returns-in-Some-2
returns-in-Some-2 c =
    let h = rw c.in-Some-2.is at c.in_ok-node.ensures c.args.tag in
    let m = map_some (scalar c.args.tag) (scalar_of c.place.result c.args.kind c.as_str.result.now)
    (tree_of_node c.args.tag c.in-Some-2.node) h in
    grind (arith, common_steps)

pub returns-in-None : goal.returns-in-None
returns-in-None c =
    let h = rw c.in-None.is at c.in_ok-node.ensures c.args.tag in
    let m = map_none (scalar c.args.tag) (scalar_of c.place.result c.args.kind c.as_str.result.now) h in
    grind (arith, common_steps)
