use Rattle.std.proofs.Common.{sym, subst, take}
use Rattle.std.proofs.Math.Facts.{Fits-lt-pow}
use Rattle.kmip_wire.specs.Tree.{Tree}
use Rattle.kmip_wire.specs.Bytes.{HasRanges}
use Rattle.kmip_wire.specs.Items.{item_tree}
use Rattle.kmip_wire.proofs.Ranges.{bytes_take, parsed_ranges}
use Rattle.kmip_wire.proofs.read.read_tree.Goals as goal

pub returns-in-Ok-clause-ranges : goal.returns-in-Ok-clause-ranges
returns-in-Ok-clause-ranges c =
    let b = c.args.bytes.now in
    let n = c.in-Some.size in
    let P : Tree → Type 0 = λ t. HasRanges t in
    subst P (sym c.in-Ok.ensures)
    (parsed_ranges (item_tree c.in-Some-root.item) 1 (take n b)
    (bytes_take n b (λ i. Fits-lt-pow (c.type_inv.bytes i))) c.in-Some-root.ensures.parses)
