use Rattle.std.proofs.Common.{◌≡◌, ◌∙◌, sym, ap, arith, length}
use Rattle.std.specs.List.{slice_get}
use Rattle.std.proofs.lemmas.Option.{slice_get_read, slice_get_past}
use Rattle.kmip_wire.specs.Sees.{tree_of_node}
use Rattle.kmip_client.specs.Untyped.{children_of}
use Rattle.kmip_client.proofs.Tagged.{children_are}
use Rattle.kmip_client.proofs.untyped.take_child.Goals as goal

pub returns-then-index-len : goal.returns-then-index-len
returns-then-index-len c =
    let items : c.into_vec-items.result.items ≡ c.in-Structure.items = cc c.into_vec-items.ensures in
    let all : c.in-Structure.items ≡ children_of c.args.tree =
    children_are c.args.tree c.tree.inside.tag c.in-Structure.items
    (sym (ap (tree_of_node c.tree.inside.tag) c.in-Structure.is) ∙ c.tree.view_is) in
    let len : c.len.result ≡ length c.into_vec-items.result.items = grind (arith, c.len.ensures) in
    sym (ap (λ ts. slice_get ts c.args.index) (sym all ∙ sym items)
    ∙ slice_get_read c.into_vec-items.result.items c.len.result c.args.index c.swap_remove.result len c.if-index-len.true c.swap_remove.ensures.value)

pub returns : goal.returns
returns c =
    let items : c.into_vec-items.result.items ≡ c.in-Structure.items = cc c.into_vec-items.ensures in
    let all : c.in-Structure.items ≡ children_of c.args.tree =
    children_are c.args.tree c.tree.inside.tag c.in-Structure.items
    (sym (ap (tree_of_node c.tree.inside.tag) c.in-Structure.is) ∙ c.tree.view_is) in
    let len : c.len.result ≡ length c.into_vec-items.result.items = grind (arith, c.len.ensures) in
    sym (ap (λ ts. slice_get ts c.args.index) (sym all ∙ sym items)
    ∙ slice_get_past c.into_vec-items.result.items c.args.index
    (omega (arith, len, c.if-index-len.false)))
