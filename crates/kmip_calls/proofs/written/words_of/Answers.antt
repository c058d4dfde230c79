use Rattle.std.proofs.Common.{◌∙◌, ap, sym, length, List, [], ◌∷◌}
use Rattle.kmip_calls.specs.Places.{may_be_option}
use Rattle.kmip_calls.specs.Written.{words_from}
use Rattle.kmip_calls.proofs.Words.{onto, with_name, one_more, no_more, all_written}
use Rattle.kmip_calls.proofs.written.words_of.Goals as goal

pub loop-index-init : goal.loop-index-init
loop-index-init c =
    rw (c.in_ok-push.ensures, c.new-written.ensures, c.in_ok-of.ensures)
    (with_name c.args.name.now c.args.words.now)

pub loop-index-preserved : goal.loop-index-preserved
loop-index-preserved c =
    let l = c.loop-index in
    let is = rw (c.in-Some.is, c.may_be_option-is_option.ensures) at c.in_ok-word.ensures in
    l.invariant ∙ one_more (may_be_option c.args.name.now (length c.args.words.now)) c.args.words.now
    l.index _ l.written c.push-in-Some.new.self c.in-Some.word c.loop-index-test.true is
    c.in_ok-push-in-Some.ensures

pub returns-in-None : goal.returns-in-None
returns-in-None c =
    let l = c.loop-index in
    let is = rw (c.in-None.is, c.may_be_option-is_option.ensures) at c.in_ok-word.ensures in
    sym (l.invariant ∙ no_more (may_be_option c.args.name.now (length c.args.words.now)) c.args.words.now
    l.index _ l.written c.loop-index-test.true is)

pub returns : goal.returns
returns c =
    let l = c.loop-index in
    sym (l.invariant ∙ all_written (may_be_option c.args.name.now (length c.args.words.now)) c.args.words.now
    l.index l.written c.loop-index-test.false)
