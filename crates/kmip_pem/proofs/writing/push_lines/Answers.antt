use Rattle.std.proofs.Common.{sym, ◌∙◌, arith}
use Rattle.std.proofs.lemmas.Grind.{common_steps}
use Rattle.kmip_pem.proofs.Loops.{push_more, body_end}
use Rattle.kmip_pem.proofs.writing.push_lines.Goals as goal

pub loop-rest-preserved : goal.loop-rest-preserved
loop-rest-preserved c =
    let e = push_more c.loop-rest.out c.loop-rest.rest.now (omega arith) in
    first_of (
      cc (e, c.in_ok-push_all.ensures, c.in_ok-push_all-2.ensures),
      grind (arith, common_steps, e, c.in_ok-push_all.ensures, c.in_ok-push_all-2.ensures),
    )

pub returns : goal.returns
returns c = sym (body_end c.loop-rest.out c.loop-rest.rest.now (omega arith)) ∙ c.loop-rest.invariant
