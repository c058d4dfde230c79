use Rattle.std.proofs.Common.{◌≡◌, ◌∙◌, ap, sym, map}
use Rattle.std.specs.Option.{option_and_then}
use Rattle.kmip_words.specs.Calls.{call_in, call_alone}
use Rattle.kmip_words.proofs.LineCalls.{call_alone_utf8, call_alone_other}
use Rattle.kmip_words.proofs.call.call_alone.Goals as goal

pub returns-in_default : goal.returns-in_default
returns-in_default c = sym (call_alone_other c.args.line.now c.in_default.ensures.cases.0)

pub returns-in-Some : goal.returns-in-Some
returns-in-Some c =
    let words = rw (c.in-Some.is, c.in-Ok.ensures.cases.0) at c.in_ok-words.ensures in
    let here : call_alone c.args.line.now ≡ call_in (map (λ word. word.now) c.in-Some.words.items) =
    call_alone_utf8 c.args.line.now c.in-Ok.ensures.cases.1 ∙ ap (option_and_then call_in) (sym words) in
    rw here (rw c.deref.ensures.value at c.call_in.ensures)

pub returns-in-None : goal.returns-in-None
returns-in-None c =
    let words = rw (c.in-None.is, c.in-Ok.ensures.cases.0) at c.in_ok-words.ensures in
    sym (call_alone_utf8 c.args.line.now c.in-Ok.ensures.cases.1 ∙ ap (option_and_then call_in) (sym words))
