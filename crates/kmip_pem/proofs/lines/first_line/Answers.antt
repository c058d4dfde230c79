use Rattle.std.proofs.Common.{arith}
use Rattle.std.proofs.lemmas.Grind.{common_steps}
use Rattle.kmip_pem.proofs.Loops.{lines_first, lines_last, first_within}
use Rattle.kmip_pem.proofs.lines.first_line.Goals as goal

pub returns-in-Some : goal.returns-in-Some
returns-in-Some c =
    let e = lines_first c.args.text.now c.in-Some.end c.in-Some.ensures in
    let lt = first_within c.args.text.now c.in-Some.end c.in-Some.ensures in
    record { lines = grind (arith, common_steps, e); shorter = grind (arith, common_steps, lt) }

pub returns-in-None : goal.returns-in-None
returns-in-None c =
    let e = lines_last c.args.text.now c.in-None.ensures c.requires in
    record { lines = grind (arith, common_steps, e); shorter = grind (arith, common_steps) }
