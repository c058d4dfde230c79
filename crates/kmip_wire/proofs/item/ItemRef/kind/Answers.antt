use Rattle.std.proofs.Common.{arith}
use Rattle.kmip_wire.specs.Items.{item_tree}
use Rattle.kmip_wire.proofs.Views.{long_enough, kind_is, has_kind}
use Rattle.kmip_wire.proofs.item.ItemRef.kind.Goals as goal

pub bounds-self-3 : goal.bounds-self-3
bounds-self-3 c = omega (arith, (long_enough c.args.self.bytes.now c.args.self.is_item).0)

pub returns : goal.returns
unfolding item_tree
returns c = kind_is c.args.self.bytes.now c.in-Some.kind c.args.self.is_item c.in-Some.ensures

pub unreachable-requires : goal.unreachable-requires
unfolding item_tree
unreachable-requires c = has_kind c.args.self.bytes.now c.args.self.is_item c.in-None.ensures
