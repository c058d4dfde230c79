use Rattle.std.proofs.Common.{◌≡◌, ◌+◌, ◌&&◌, false, length, drop, sym, ap, ◌∙◌, arith}
use Rattle.std.proofs.lemmas.Grind.{common_steps}
use Rattle.std.proofs.lemmas.Iterator.{YieldsList-from_chars}
use Rattle.std.proofs.lemmas.List.{at_drop_all, length_push}
use Rattle.std.proofs.lemmas.Iterator.Consumers.{YieldsList-turn, YieldsList-end}
use Rattle.std.specs.List.{list_all}
use Rattle.std.specs.Str.{chars}
use Rattle.kmip_encodings.specs.XmlGrammar.{is_xml_char}
use Rattle.kmip_xml.proofs.Pieces.{passes_more}
use Rattle.kmip_xml.proofs.read.foreign_at.Goals as goal

pub returns-then-not-is_xml_char : goal.returns-then-not-is_xml_char
returns-then-not-is_xml_char c =
    let l = c.loop-ch in
    let all = chars c.args.text.now in
    let t = YieldsList-turn (YieldsList-from_chars c.args.text.now c.utf8.text cc)
    l.yielded _ l.yielded_by _ _ c.in-Some.ch c.in-Some.is c.next.ensures.steps in
    let e = passes_more all (length l.yielded) c.in-Some.ch t in
    let i = l.invariant in
    grind (arith, common_steps)

pub loop-ch-preserved : goal.loop-ch-preserved
loop-ch-preserved c =
    let l = c.loop-ch in
    let all = chars c.args.text.now in
    let t = YieldsList-turn (YieldsList-from_chars c.args.text.now c.utf8.text cc)
    l.yielded _ l.yielded_by _ _ c.in-Some.ch c.in-Some.is c.next.ensures.steps in
    let e = passes_more all (length l.yielded) c.in-Some.ch t in
    let n = length_push l.yielded c.in-Some.ch in
    let i = l.invariant in
    grind (arith, common_steps)

pub returns : goal.returns
returns c =
    let l = c.loop-ch in
    let all = chars c.args.text.now in
    let t = YieldsList-end (YieldsList-from_chars c.args.text.now c.utf8.text cc)
    l.yielded _ l.yielded_by _ _ c.in-None.is c.next.ensures.steps in
    let e = at_drop_all (list_all is_xml_char) all (length l.yielded) (omega (arith, t.1)) in
    let i = l.invariant in
    grind (arith, common_steps)
