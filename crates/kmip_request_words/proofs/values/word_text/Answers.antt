use Rattle.std.proofs.Common.{◌∙◌, ap, sym}
use Rattle.kmip_request_words.specs.Values.{text_from}
use Rattle.kmip_request_words.proofs.Utf8.{text_from_utf8, text_from_other, text_of_other, text_of_none}
use Rattle.kmip_request_words.proofs.values.word_text.Goals as goal

pub returns-in_default : goal.returns-in_default
returns-in_default c =
    let none = rw (c.in_default.is, c.as_bytes.ensures.value) at c.in_ok-bytes.ensures in
    sym (text_of_other c.args.word.now (sym c.if-eq.ensures) ∙ ap text_from (sym none))

pub returns-in-Ok : goal.returns-in-Ok
returns-in-Ok c =
    let some = rw (c.in-Some.is, c.as_bytes.ensures.value) at c.in_ok-bytes.ensures in
    let utf8 = rw c.deref.ensures.value at c.in-Ok.ensures.cases in
    rw (c.in_ok-of-in-Ok.ensures, utf8.0)
    (sym (text_of_other c.args.word.now (sym c.if-eq.ensures) ∙ ap text_from (sym some)
    ∙ text_from_utf8 c.in-Some.bytes.items utf8.1))

pub returns : goal.returns
returns c =
    let some = rw (c.in-Some.is, c.as_bytes.ensures.value) at c.in_ok-bytes.ensures in
    let other = rw c.deref.ensures.value at c.in-Err.ensures.cases.0 in
    sym (text_of_other c.args.word.now (sym c.if-eq.ensures) ∙ ap text_from (sym some)
    ∙ text_from_other c.in-Some.bytes.items other)

pub returns-then-eq : goal.returns-then-eq
returns-then-eq c = rw c.new.ensures (sym (text_of_none c.args.word.now (sym c.if-eq.ensures)))
