use Rattle.std.proofs.Common.{◌≡◌, ◌∙◌, sym, ap, subst, true, length, Result, Some}
use Rattle.std.specs.List.{filter, slice_get}
use Rattle.kmip_tags.specs.Tags.{BATCH_ITEM, RESPONSE_MESSAGE}
use Rattle.kmip_wire.specs.Tree.{Tree}
use Rattle.kmip_client.specs.declared.error.Error.{Error}
use Rattle.kmip_client.specs.Outcome.{Gives}
use Rattle.kmip_shape.specs.Shape.{has_tag}
use Rattle.kmip_client.specs.Untyped.{children_of, counts_one, all_under}
use Rattle.kmip_client.proofs.Tagged.{one_is, item_answers}
use Rattle.kmip_client.proofs.untyped.message_answer.Goals as goal

pub returns : goal.returns
returns c =
    let has : has_tag RESPONSE_MESSAGE c.args.message ≡ true =
    ap (λ tag. has_tag tag c.args.message) (sym c.of.ensures) ∙ sym c.has_tag.ensures
    ∙ c.if-not-has_tag.false in
    let counts : counts_one c.args.message ≡ true = sym c.counts_one.ensures ∙ c.if-not-counts_one.false in
    let children : c.children-items.result.now ≡ children_of c.args.message = c.children-items.ensures in
    let one : length (all_under BATCH_ITEM c.args.message) ≡ 1 =
    ap (λ ts. length (filter (has_tag BATCH_ITEM) ts)) (sym children)
    ∙ (ap (λ tag. length (filter (has_tag tag) c.children-items.result.now))
    (sym c.of-2.ensures) ∙ (sym c.count-count.ensures ∙ c.if-count-ne1.false)) in
    let first : slice_get (all_under BATCH_ITEM c.args.message) 0 ≡ Some c.in-Some.item =
    ap (λ ts. slice_get (filter (has_tag BATCH_ITEM) ts) 0) (sym children)
    ∙ (ap (λ tag. slice_get (filter (has_tag tag) c.children-items.result.now) 0)
    (sym c.of-3.ensures) ∙ (sym c.first-index.ensures
    ∙ (ap (λ ts. slice_get ts c.first-index.result) children
    ∙ (sym c.take_child.ensures ∙ c.in-Some.is)))) in
    let P : Result Tree Error → Type 0 = λ expected. Gives expected c.item_answer.result in
    subst P (sym (item_answers c.args.operation c.args.message c.in-Some.item has counts
    (one_is (all_under BATCH_ITEM c.args.message) c.in-Some.item one first)))
    c.item_answer.ensures
