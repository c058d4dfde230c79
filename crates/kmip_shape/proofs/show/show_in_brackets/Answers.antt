use Rattle.kmip_shape.proofs.Growth.{brackets_grown}
use Rattle.kmip_shape.proofs.show.show_in_brackets.Goals as goal

pub returns : goal.returns
returns g c = brackets_grown c.args.name.now c.open_brackets.ensures c.show_into.ensures c.close_brackets.ensures
