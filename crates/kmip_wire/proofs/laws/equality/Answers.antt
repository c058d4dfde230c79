use Rattle.std.proofs.lemmas.Slice.Eq.{bytes_eq-Decides}
use Rattle.kmip_wire.specs.Same.{same_tree-Decides, same_items-Decides}
use Rattle.kmip_wire.proofs.laws.equality.Goals as goal

pub returns : goal.returns
returns c = record { tree = same_tree-Decides; trees = same_items-Decides; bytes = bytes_eq-Decides }
