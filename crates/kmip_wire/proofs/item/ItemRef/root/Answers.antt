use Rattle.std.proofs.Common.{◌∙◌, sym}
use Rattle.std.proofs.lemmas.Bool.{false≢true}
use Rattle.kmip_wire.specs.Items.{item_tree}
use Rattle.kmip_wire.proofs.Views.{a_tree, opened, root_is, no_root}
use Rattle.kmip_wire.proofs.item.ItemRef.root.Goals as goal

pub invariant_of-result : goal.invariant_of-result
invariant_of-result c =
    let t = c.check.ensures.0 c.if-check.true in
    record { is_item = a_tree c.args.bytes.now t.0 t.1 }

pub returns-then-check : goal.returns-then-check
unfolding item_tree
returns-then-check c =
    let t = c.check.ensures.0 c.if-check.true in
    record {
      tree = root_is c.args.bytes.now t.0 t.1;
      parses =
          opened c.args.bytes.now (a_tree c.args.bytes.now t.0 t.1);
    }

pub returns-else-check-clause-tree : goal.returns-else-check-clause-tree
returns-else-check-clause-tree c = no_root c.args.bytes.now
    (λ t h. false≢true (sym c.if-check.false ∙ c.check.ensures.1 (t, h)))
