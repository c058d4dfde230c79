use Rattle.std.proofs.Common.{◌==◌, ◌∙◌, sym, ap}
use Rattle.std.specs.List.{find}
use Rattle.kmip_wire.specs.Parts.{tag_of}
use Rattle.kmip_wire.specs.Sees.{tree_of_node}
use Rattle.kmip_operations.proofs.AnyPayloads.{found_in}
use Rattle.kmip_operations.proofs.objection.item_with.Goals as goal

pub returns-in-Structure : goal.returns-in-Structure
returns-in-Structure c =
    c.first_with.ensures
    ∙ ap (find (λ item. tag_of item == c.args.tag)) c.as_slice.ensures
    ∙ found_in c.args.payload.now c.payload.inside.tag c.args.tag c.in-Structure.items
    (sym (ap (tree_of_node c.payload.inside.tag) c.in-Structure.is) ∙ c.payload.view_is)
