use Rattle.std.proofs.Common.{◌∙◌, sym}
use Rattle.kmip_client.proofs.WholeMessages.{no_level, more_within, one_past}
use Rattle.kmip_client.proofs.whole_message.+levels.Goals as goal

pub are_within-returns-then-not-is_within : goal.are_within-returns-then-not-is_within
are_within-returns-then-not-is_within t c =
    one_past c.args.trees.now c.loop-tree.tree-index c.tree-item.result c.args.most
    c.loop-tree-test.true (sym c.tree-item.is) (sym c.if-not-is_within.true ∙ c.is_within.ensures)

pub are_within-loop-tree-preserved : goal.are_within-loop-tree-preserved
are_within-loop-tree-preserved t c =
    more_within c.args.trees.now c.loop-tree.tree-index c.tree-item.result c.args.most
    c.loop-tree-test.true (sym c.tree-item.is) c.loop-tree.invariant
    (sym c.if-not-is_within.false ∙ c.is_within.ensures)

pub is_within-returns-then-most-eq0 : goal.is_within-returns-then-most-eq0
is_within-returns-then-most-eq0 t c = no_level c.args.tree.now c.args.most c.if-most-eq0.true
