use Rattle.std.proofs.Common.{◌∙◌, sym, ap}
use Rattle.kmip_wire.specs.Sees.{tree_of_node}
use Rattle.kmip_client.proofs.Tagged.{children_are}
use Rattle.kmip_operations.proofs.objection.children.Goals as goal

pub returns-in-Structure : goal.returns-in-Structure
returns-in-Structure c =
    c.as_slice.ensures ∙ children_are c.args.tree.now c.tree.inside.tag c.in-Structure.items
    (sym (ap (tree_of_node c.tree.inside.tag) c.in-Structure.is) ∙ c.tree.view_is)
