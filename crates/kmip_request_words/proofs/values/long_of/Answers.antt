use Rattle.std.proofs.Common.{◌≡◌, ◌<◌, ◌^◌, sym, ap, ◌∙◌, arith}
use Rattle.std.specs.Fmt.{decimal}
use Rattle.std.proofs.lemmas.Fmt.{parse-decimal}
use Rattle.std.proofs.lemmas.Slice.Eq.{bytes_eq-Decides}
use Rattle.kmip_request_words.proofs.Numbers.{long_found, long_none}
use Rattle.kmip_request_words.proofs.values.long_of.Goals as goal

pub returns-in_default : goal.returns-in_default
returns-in_default c =
    sym (long_none c.args.word.now (λ n small is.
    c.in_default.not-Ok n (parse-decimal 64 n c.args.word.now c.parse.result (omega (arith, small))
    (omega (arith, small)) (sym is) c.parse.ensures.value.0)))

pub returns-then-number-gt-GREATEST : goal.returns-then-number-gt-GREATEST
returns-then-number-gt-GREATEST c =
    sym (long_none c.args.word.now (λ n small is.
    let found = parse-decimal 64 n c.args.word.now c.parse.result (omega (arith, small))
    (omega (arith, small)) (sym is) c.parse.ensures.value.0 in
    let here : c.in-Ok.number ≡ n = cc (found, c.in-Ok.is) in
    absurd (omega (arith, small, here, c.if-number-gt-GREATEST.true))))

pub returns-then-eq : goal.returns-then-eq
returns-then-eq c =
    let n = c.in-Ok.number in
    let small : n < 2 ^ 63 = omega (arith, c.if-number-gt-GREATEST.false) in
    let printed = (bytes_eq-Decides c.format.result.now c.args.word.now).0 (sym c.if-eq.ensures) in
    sym (long_found c.args.word.now n small (sym c.format.ensures.text ∙ printed))

pub returns-else-eq : goal.returns-else-eq
returns-else-eq c =
    sym (long_none c.args.word.now (λ n small is.
    let found = parse-decimal 64 n c.args.word.now c.parse.result (omega (arith, small))
    (omega (arith, small)) (sym is) c.parse.ensures.value.0 in
    let here : c.in-Ok.number ≡ n = cc (found, c.in-Ok.is) in
    let printed = (bytes_eq-Decides c.format.result.now c.args.word.now).1
    (c.format.ensures.text ∙ ap decimal here ∙ is) in
    cc (c.if-eq.ensures, printed)))
