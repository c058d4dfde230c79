use Rattle.std.proofs.Common.{◌∙◌, sym}
use Rattle.kmip_request_words.proofs.NamedValues.{value_first, value_later}
use Rattle.kmip_request_words.proofs.Rests.{rest_is}
use Rattle.kmip_request_words.proofs.options.+value_given.Goals as goal

pub returns-in-Some : goal.returns-in-Some
returns-in-Some t c =
    let found = rw c.as_str.ensures.bytes at c.in-Some.ensures.cases in
    value_first c.args.name.now c.first-item.result c.in-Some.value.now c.args.words.now found.0 c.in-len1-up.len_at_least c.first-item.is found.1.0 found.1.1 found.2

pub returns-in-None : goal.returns-in-None
returns-in-None t c =
    c.value_given.ensures
    ∙ (rw (rest_is 1 c.args.words.now)
    (value_later c.args.name.now c.first-item.result c.args.words.now c.in-len1-up.len_at_least c.first-item.is (rw c.as_str.ensures.bytes at c.in-None.ensures.cases)))
