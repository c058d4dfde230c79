-- The tree of a view's bytes, and the trees of the children that are left.
use Rattle.std.specs.Prelude.{List}
use Rattle.kmip_wire.specs.Tree.{Tree}
use Rattle.kmip_wire.specs.Whole.{the_tree, the_trees}
use Rattle.kmip_wire.specs.declared.item.ItemRef.{ItemRef}
use Rattle.kmip_wire.specs.declared.item.Children.{Children}

unfoldable pub item_tree : ItemRef → Tree
item_tree item = the_tree item.bytes.now

unfoldable pub trees_left : Children → List Tree
trees_left children = the_trees children.bytes.now
