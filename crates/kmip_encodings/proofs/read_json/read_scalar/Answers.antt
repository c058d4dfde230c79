use Rattle.std.proofs.Common.{ℕ, sym, ap, subst, ◌∙◌, option_map}
use Rattle.json.specs.Value.{value_view}
use Rattle.kmip_wire.specs.Tree.{Tree, scalar}
use Rattle.kmip_wire.specs.Sees.{tree_of_node}
use Rattle.kmip_encodings.specs.Context.{place}
use Rattle.kmip_encodings.specs.Reading.{Read, Fails, scalar_in}
use Rattle.kmip_encodings.proofs.Items.{scalar_is, scalar_none}
use Rattle.kmip_encodings.proofs.read_json.read_scalar.Goals as goal

pub returns-in-Some : goal.returns-in-Some
returns-in-Some c = scalar_is c.args.tag c.args.kind _ _
    (ap (option_map (tree_of_node c.args.tag)) (sym c.in-Some.is) ∙ c.in_ok-node.ensures c.args.tag
    ∙ ap (λ (p : ℕ). option_map (scalar c.args.tag) (scalar_in p c.args.kind (value_view c.args.value.now))) c.place.ensures)

pub returns-in-None : goal.returns-in-None
returns-in-None c =
    subst (λ (r : Read Tree). Fails c.wants.result r)
    (sym (scalar_none c.args.tag c.args.kind
    (scalar_in (place c.args.named c.args.tag) c.args.kind (value_view c.args.value.now))
    (ap (option_map (tree_of_node c.args.tag)) (sym c.in-None.is)
    ∙ c.in_ok-node.ensures c.args.tag
    ∙ ap (λ (p : ℕ). option_map (scalar c.args.tag) (scalar_in p c.args.kind (value_view c.args.value.now))) c.place.ensures)))
    c.wants.ensures
