use Rattle.kmip_calls.proofs.Options.{cut, uncut, option_added, whole_added}
use Rattle.kmip_calls.proofs.written.push_option_word.Goals as goal

pub returns-in_ok-push_str-in-Some-2 : goal.returns-in_ok-push_str-in-Some-2
returns-in_ok-push_str-in-Some-2 c =
    option_added c.push_text_word.result c.push_text_word.new.out c.args.out.now c.push_str.new.self
    c.push_str-in-Some.new.self c.args.text.now c.in-Some.name.now c.in-Some.value.now
    c.push_text_word.ensures c.in_ok-push_str-in-Some-2.ensures c.in_ok-push_str-in-Some.ensures
    (cut c.args.text.now (c.in-Some.name, c.in-Some.value) c.in-Some.ensures.cases)

pub returns-in-None : goal.returns-in-None
returns-in-None c =
    whole_added c.push_text_word-in-None.result c.push_text_word-in-None.new.out c.args.out.now
    c.args.text.now c.push_text_word-in-None.ensures
    (uncut c.args.text.now c.in-None.ensures.cases)
