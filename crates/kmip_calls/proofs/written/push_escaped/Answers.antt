use Rattle.std.proofs.Common.{◌∙◌, sym, rules}
use Rattle.std.specs.Char.{encode_utf8}
use Rattle.std.specs.Str.Iter.{chars_rest}
use Rattle.kmip_calls.proofs.Escapes.{more_escaped, all_escaped}
use Rattle.kmip_calls.proofs.written.push_escaped.Goals as goal

pub loop-ch-preserved : goal.loop-ch-preserved
loop-ch-preserved c =
    let l = c.loop-ch in
    l.invariant ∙ more_escaped l.out c.push_escape.new.out (chars_rest l.ch-iterator)
    (encode_utf8 c.in-Some.ch) (chars_rest c.next.new.self) (search rules)
    c.in_ok-push_escape.ensures

pub returns : goal.returns
returns c =
    let l = c.loop-ch in
    sym (l.invariant ∙ all_escaped l.out (chars_rest l.ch-iterator) (search rules))
