use Rattle.std.proofs.Common.{ap, sym, ◌∙◌, codes}
use Rattle.kmip_request_words.proofs.NamedValues.{after_here, after_not}
use Rattle.kmip_calls.specs.Values.{value_or_all}
use Rattle.kmip_calls.proofs.items.digits_in.Goals as goal

pub returns-in-Some : goal.returns-in-Some
returns-in-Some c =
    let found = c.in-Some.ensures.cases in
    ap (λ x. value_or_all x c.args.text.now)
    (after_here (codes "0x") c.args.text.now c.in-Some.digits.now found.0 found.1.0 found.1.1 found.2)

pub returns-in-None : goal.returns-in-None
returns-in-None c =
    ap (λ x. value_or_all x c.args.text.now)
    (after_not (codes "0x") c.args.text.now c.in-None.ensures.cases)
