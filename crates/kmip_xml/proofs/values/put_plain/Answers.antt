use Rattle.std.proofs.Common.{◌∙◌, length, drop, sym, ap, arith, ◌++◌, ◌+◌}
use Rattle.std.proofs.lemmas.Iterator.{YieldsList-from_chars}
use Rattle.std.proofs.lemmas.List.{at_drop_all, length_push, append_assoc, append-nil}
use Rattle.std.proofs.lemmas.Iterator.Consumers.{YieldsList-turn, YieldsList-end}
use Rattle.std.specs.Str.{chars}
use Rattle.kmip_xml.specs.Values.{plain_char, plain}
use Rattle.kmip_xml.proofs.Pieces.{plain_more}
use Rattle.kmip_xml.proofs.values.put_plain.Goals as goal

pub loop-ch-preserved : goal.loop-ch-preserved
loop-ch-preserved c =
    let l = c.loop-ch in
    let all = chars c.args.text.now in
    let ch = c.in-Some.ch in
    let t = YieldsList-turn (YieldsList-from_chars c.args.text.now c.utf8.text cc)
    l.yielded _ l.yielded_by _ _ ch c.in-Some.is c.next.ensures.steps in
    let n = length_push l.yielded ch in
    l.invariant
    ∙ ap (λ x. l.out ++ x) (plain_more all (length l.yielded) ch l.before t)
    ∙ sym (append_assoc l.out (plain_char l.before ch) (plain ch (drop (length l.yielded + 1) all)))
    ∙ ap (λ x. x ++ plain ch (drop (length l.yielded + 1) all)) (sym c.in_ok-put_char.ensures)
    ∙ ap (λ k. c.put_char.new.out ++ plain ch (drop k all)) (sym n)

pub returns : goal.returns
returns c =
    let l = c.loop-ch in
    let all = chars c.args.text.now in
    let t = YieldsList-end (YieldsList-from_chars c.args.text.now c.utf8.text cc)
    l.yielded _ l.yielded_by _ _ c.in-None.is c.next.ensures.steps in
    sym (l.invariant ∙ ap (λ x. l.out ++ x)
    (at_drop_all (plain l.before) all (length l.yielded) (omega (arith, t.1))) ∙ append-nil l.out)
