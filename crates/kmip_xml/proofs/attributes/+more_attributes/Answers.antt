use Rattle.std.proofs.Common.{◌≡◌, ◌-◌, Some, None, is_some, true, false, sym, ap, ◌∙◌, arith}
use Rattle.std.proofs.lemmas.Grind.{common_steps}
use Rattle.kmip_xml.specs.Scan.{trimmed, spaced}
use Rattle.kmip_xml.specs.Markup.{tag_end, attribute, attributes}
use Rattle.kmip_xml.proofs.Options.{is_some_map, bind_none}
use Rattle.kmip_xml.proofs.Tags.{at_tag_end, no_more, one_more}
use Rattle.kmip_xml.specs.Given.{◌>>=◌}
use Rattle.kmip_xml.proofs.attributes.+more_attributes.Goals.{then-count-eq0-via-then-count-eq0, then-count-eq0-via-else-count-eq0+then-is_none}
use Rattle.kmip_xml.proofs.attributes.+more_attributes.Goals as goal

pub returns-then-is_some : goal.returns-then-is_some
returns-then-is_some t c =
    let seen : is_some c.tag_end.result ≡ true = grind (arith, common_steps) in
    let ends = ap (λ r. is_some (tag_end r)) (sym c.trimmed-rest.ensures)
    ∙ ap is_some (sym c.tag_end.ensures) ∙ is_some_map _ c.tag_end.result ∙ seen in
    at_tag_end c.args.count c.args.found c.args.text.now ends
    ∙ ap (λ r. Some (c.args.found, r)) (sym c.trimmed-rest.ensures)

pub returns-then-count-eq0 : goal.returns-then-count-eq0
returns-then-count-eq0 t c =
    let seen : is_some c.tag_end.result ≡ false = grind (arith, common_steps) in
    let ends = ap (λ r. is_some (tag_end r)) (sym c.trimmed-rest.ensures)
    ∙ ap is_some (sym c.tag_end.ensures) ∙ is_some_map _ c.tag_end.result ∙ seen in
    elim c.then-count-eq0.branch [
      | then-count-eq0-via-then-count-eq0 w ↦
          no_more c.args.count c.args.found c.args.text.now w.if-count-eq0.true ends
      | then-count-eq0-via-else-count-eq0+then-is_none w ↦
          let none : is_some w.spaced.result ≡ false = grind (arith, common_steps) in
          one_more c.args.count c.args.found c.args.text.now w.if-count-eq0.false ends
          ∙ ap (λ o. o >>= λ rest. attribute c.args.found rest >>= λ one. attributes (c.args.count - 1) one.0 one.1)
          (sym w.spaced.ensures) ∙ bind_none _ _ w.spaced.result none
    ]

pub returns-in_err-found : goal.returns-in_err-found
returns-in_err-found t c =
    let seen : is_some c.tag_end.result ≡ false = grind (arith, common_steps) in
    let ends = ap (λ r. is_some (tag_end r)) (sym c.trimmed-rest.ensures)
    ∙ ap is_some (sym c.tag_end.ensures) ∙ is_some_map _ c.tag_end.result ∙ seen in
    let more = one_more c.args.count c.args.found c.args.text.now c.if-count-eq0.false ends in
    grind (arith, common_steps)

pub returns : goal.returns
returns t c =
    let seen : is_some c.tag_end.result ≡ false = grind (arith, common_steps) in
    let ends = ap (λ r. is_some (tag_end r)) (sym c.trimmed-rest.ensures)
    ∙ ap is_some (sym c.tag_end.ensures) ∙ is_some_map _ c.tag_end.result ∙ seen in
    let more = one_more c.args.count c.args.found c.args.text.now c.if-count-eq0.false ends in
    grind (arith, common_steps)
