use Rattle.std.proofs.Common.{arith}
use Rattle.kmip_wire.specs.Items.{item_tree}
use Rattle.kmip_wire.proofs.Views.{long_enough, tag_is_bytes}
use Rattle.kmip_wire.proofs.item.ItemRef.tag.Goals as goal

pub bounds-self-0 : goal.bounds-self-0
bounds-self-0 c = omega (arith, (long_enough c.args.self.bytes.now c.args.self.is_item).0)

pub bounds-self-1 : goal.bounds-self-1
bounds-self-1 c = omega (arith, (long_enough c.args.self.bytes.now c.args.self.is_item).0)

pub bounds-self-2 : goal.bounds-self-2
bounds-self-2 c = omega (arith, (long_enough c.args.self.bytes.now c.args.self.is_item).0)

pub bounds-self-3 : goal.bounds-self-3
bounds-self-3 c = omega (arith, (long_enough c.args.self.bytes.now c.args.self.is_item).0)

pub returns : goal.returns
unfolding item_tree
returns c = tag_is_bytes c.args.self.bytes.now c.from_word.result c.args.self.is_item c.from_word.ensures
