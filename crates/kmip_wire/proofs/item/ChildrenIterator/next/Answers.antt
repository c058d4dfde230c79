use Rattle.std.proofs.Common.{◌≡◌, ◌∙◌, ◌∷◌, sym, ap, arith, length, take, drop}
use Rattle.kmip_wire.specs.Head.{size_at}
use Rattle.kmip_wire.specs.Whole.{is_tree, are_trees, the_tree, the_trees}
use Rattle.kmip_wire.specs.Items.{item_tree, trees_left}
use Rattle.kmip_wire.proofs.Views.{first_child, no_child, some_bytes, no_bytes}
use Rattle.kmip_wire.proofs.item.ChildrenIterator.next.Goals as goal

pub returns-then-is_empty-clause-steps : goal.returns-then-is_empty-clause-steps
unfolding item_tree trees_left
returns-then-is_empty-clause-steps c =
    let b = c.args.self.now.bytes.now in let e = no_child b (no_bytes b c.if-is_empty.ensures) in
    (e, e)

pub whole_length-requires : goal.whole_length-requires
whole_length-requires c =
    let b = c.args.self.now.bytes.now in
    let f = first_child b c.args.self.now.are_items (some_bytes b c.if-is_empty.ensures) in f.head

pub split_at-requires : goal.split_at-requires
split_at-requires c =
    let b = c.args.self.now.bytes.now in
    let f = first_child b c.args.self.now.are_items (some_bytes b c.if-is_empty.ensures) in
    omega (arith, f.within)

pub invariant_of-self : goal.invariant_of-self
invariant_of-self c =
    let b = c.args.self.now.bytes.now in
    let f = first_child b c.args.self.now.are_items (some_bytes b c.if-is_empty.ensures) in
    record { are_items = ap are_trees (c.split_at.ensures.back ∙ ap (λ n. drop n b) c.whole_length.ensures) ∙ f.rest }

pub invariant_of-result : goal.invariant_of-result
invariant_of-result c =
    let b = c.args.self.now.bytes.now in
    let f = first_child b c.args.self.now.are_items (some_bytes b c.if-is_empty.ensures) in
    record { is_item = ap is_tree (c.split_at.ensures.front ∙ ap (λ n. take n b) c.whole_length.ensures) ∙ f.item }

pub returns-clause-steps : goal.returns-clause-steps
unfolding item_tree trees_left
returns-clause-steps c =
    let b = c.args.self.now.bytes.now in
    let f = first_child b c.args.self.now.are_items (some_bytes b c.if-is_empty.ensures) in
    f.order
    ∙ ap (λ x. the_tree x ∷ the_trees (drop (size_at b) b))
    (sym (c.split_at.ensures.front ∙ ap (λ n. take n b) c.whole_length.ensures))
    ∙ ap (λ x. the_tree c.split_at.result.0.now ∷ the_trees x)
    (sym (c.split_at.ensures.back ∙ ap (λ n. drop n b) c.whole_length.ensures))

pub returns-clause-goes : goal.returns-clause-goes
unfolding item_tree trees_left
returns-clause-goes c =
    let b = c.args.self.now.bytes.now in
    let f = first_child b c.args.self.now.are_items (some_bytes b c.if-is_empty.ensures) in
    let order : the_trees b ≡ the_tree (take (size_at b) b) ∷ the_trees c.split_at.result.1.now =
    f.order ∙ ap (λ x. the_tree (take (size_at b) b) ∷ the_trees x)
    (sym (c.split_at.ensures.back ∙ ap (λ n. drop n b) c.whole_length.ensures)) in
    record { on = λ _. (tt, tt, omega (arith, ap length order)); keeps = tt; rests = λ _. tt }
