use Rattle.std.proofs.Common.{sym, ◌∙◌}
use Rattle.kmip_request_words.proofs.Numbers.{count_back, count_none}
use Rattle.kmip_request_words.proofs.values.count_of.Goals as goal

pub returns-in-Some : goal.returns-in-Some
returns-in-Some c =
    count_back c.args.word.now c.in-Some.number c.cast_signed.result
    (sym c.long_of.ensures ∙ c.in-Some.is) c.cast_signed.ensures

pub returns-in-None : goal.returns-in-None
returns-in-None c = count_none c.args.word.now (sym c.long_of.ensures ∙ c.in-None.is)
