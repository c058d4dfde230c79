use Rattle.std.proofs.Common.{◌∙◌, sym, ap, subst, Some, None, List, ℕ, take}
use Rattle.kmip_wire.specs.Whole.{is_tree, the_tree}
use Rattle.kmip_wire.specs.Items.{item_tree}
use Rattle.kmip_wire.specs.Parses.{Parses}
use Rattle.kmip_wire.proofs.Computed.{fronts}
use Rattle.kmip_wire.proofs.Views.{a_front}
use Rattle.kmip_wire.proofs.item.ItemRef.front.Goals as goal

pub invariant_of-result : goal.invariant_of-result
invariant_of-result c =
    let f = a_front c.args.level c.in-Some.size c.args.bytes.now c.requires (sym c.in-Some.ensures) in
    record { is_item = ap is_tree c.split_at.ensures.front ∙ f.0 }

pub returns-clause-tree : goal.returns-clause-tree
unfolding item_tree
returns-clause-tree c =
    let f = a_front c.args.level c.in-Some.size c.args.bytes.now c.requires (sym c.in-Some.ensures) in
    ap (λ b. Some (the_tree b)) c.split_at.ensures.front ∙ f.1

pub split_at-requires : goal.split_at-requires
split_at-requires c = (a_front c.args.level c.in-Some.size c.args.bytes.now c.requires (sym c.in-Some.ensures)).3

pub returns-clause-parses : goal.returns-clause-parses
unfolding item_tree
returns-clause-parses c =
    let n = c.in-Some.size in
    let b = c.args.bytes.now in
    let f = a_front c.args.level n b c.requires (sym c.in-Some.ensures) in
    let P : List ℕ → Type 0 = λ w. Parses (the_tree w) c.args.level (take n b) in
    (n, f.3, subst P (sym c.split_at.ensures.front) f.4, c.split_at.ensures.back)

pub returns-in_default-clause-parses : goal.returns-in_default-clause-parses
returns-in_default-clause-parses c = fronts c.args.level c.args.bytes.now None c.requires c.in_default.ensures
