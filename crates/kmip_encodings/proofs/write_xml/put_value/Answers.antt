use Rattle.std.proofs.Common.{◌∙◌, length, drop, sym, ap, arith, ◌++◌, ◌+◌}
use Rattle.std.proofs.lemmas.Iterator.{YieldsList-from_chars}
use Rattle.std.proofs.lemmas.List.{at_drop_all, length_push, append_assoc, append-nil}
use Rattle.std.proofs.lemmas.Iterator.Consumers.{YieldsList-turn, YieldsList-end}
use Rattle.std.specs.Str.{chars}
use Rattle.kmip_encodings.specs.Xml.{xml_char, escaped}
use Rattle.kmip_encodings.proofs.Elements.{escaped_more}
use Rattle.kmip_encodings.proofs.write_xml.put_value.Goals as goal

pub loop-ch-preserved : goal.loop-ch-preserved
loop-ch-preserved c =
    let l = c.loop-ch in
    let all = chars c.args.value.now in
    let t = YieldsList-turn (YieldsList-from_chars c.args.value.now c.utf8.value cc)
    l.yielded _ l.yielded_by _ _ c.in-Some.ch c.in-Some.is c.next.ensures.steps in
    let n = length_push l.yielded c.in-Some.ch in
    l.invariant
    ∙ ap (λ x. l.out ++ x) (escaped_more all (length l.yielded) c.in-Some.ch t)
    ∙ sym (append_assoc l.out (xml_char c.in-Some.ch) (escaped (drop (length l.yielded + 1) all)))
    ∙ ap (λ x. x ++ escaped (drop (length l.yielded + 1) all)) (sym c.in_ok-put_escaped.ensures)
    ∙ ap (λ k. c.put_escaped.new.out ++ escaped (drop k all)) (sym n)

pub returns : goal.returns
returns c =
    let l = c.loop-ch in
    let all = chars c.args.value.now in
    let t = YieldsList-end (YieldsList-from_chars c.args.value.now c.utf8.value cc)
    l.yielded _ l.yielded_by _ _ c.in-None.is c.next.ensures.steps in
    sym (l.invariant ∙ ap (λ x. l.out ++ x)
    (at_drop_all escaped all (length l.yielded) (omega (arith, t.1))) ∙ append-nil l.out)
