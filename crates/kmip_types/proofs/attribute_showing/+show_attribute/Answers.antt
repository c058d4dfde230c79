use Rattle.std.proofs.Common.{arith, ap, ◌-◌, ◌∷◌, ℕ, List, length, take, drop, map}
use Rattle.kmip_shape.specs.Val.{vals_of}
use Rattle.std.specs.Prelude.{codes}
use Rattle.kmip_shape.proofs.Growth.{grown, in_style, case_grown}
use Rattle.kmip_types.specs.AttributeValues.{attribute_value_val, vals_weight}
use Rattle.kmip_types.specs.declared.attribute_value.AttributeValue.{AttributeValue}
use Rattle.kmip_types.proofs.AttributesShown.{plain_is, first_and_rest, members_step, members_done}
use Rattle.kmip_types.proofs.attribute_showing.+show_attribute.Goals as goal

pub AttributeValueShowItem::show_into-returns-in_default : goal.AttributeValueShowItem::show_into-returns-in_default
AttributeValueShowItem::show_into-returns-in_default t c =
    in_style
    (plain_is c.args.self.now c.in_default.not-Name c.in_default.not-CryptographicParameters c.in_default.not-Link c.in_default.not-ApplicationSpecificInformation c.in_default.not-Structure c.args.out.now.style)
    c.show_plain.ensures

pub show_each-loop-rest-preserved : goal.show_each-loop-rest-preserved
show_each-loop-rest-preserved t c =
    let rest = c.loop-rest.rest.now in
    let tail = take (length rest - 1) (drop 1 rest) in
    let e = first_and_rest rest c.item-item.result c.in-len1-up.len_at_least c.item-item.is in
    record {
      shows = λ new h. c.loop-rest.invariant.shows new
          (members_step rest c.item-item.result tail c.loop-rest.after e c.put_comma.ensures c.show_into.ensures h);
      light = omega (
        arith,
        ap (λ (ys : List AttributeValue). vals_weight
            (vals_of (map attribute_value_val ys))) e,
        c.loop-rest.invariant.light,
      );
    }

pub show_each-returns : goal.show_each-returns
show_each-returns t c = c.loop-rest.invariant.shows c.loop-rest.out
    (members_done c.loop-rest.rest.now c.loop-rest.after c.in_default.len_below)

pub show_structure-returns : goal.show_structure-returns
show_structure-returns t c = case_grown (codes "Structure") c.open_case.ensures
    (grown c.put.ensures (grown c.show_each.ensures c.put-2.ensures)) c.close_case.ensures
