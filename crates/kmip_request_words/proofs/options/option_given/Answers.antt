use Rattle.std.proofs.Common.{refl}
use Rattle.kmip_request_words.proofs.NamedValues.{given_first, given_other}
use Rattle.kmip_request_words.proofs.Rests.{rest_is}
use Rattle.kmip_request_words.proofs.options.option_given.Goals as goal

pub returns-in-Some-clause-value : goal.returns-in-Some-clause-value
returns-in-Some-clause-value c =
    let found = rw c.as_str.ensures.bytes at c.in-Some.ensures.cases in
    let here =
    given_first c.args.name.now c.first-item.result c.in-Some.value.now c.args.words.now found.0 c.in-len1-up.len_at_least c.first-item.is found.1.0 found.1.1 found.2 in
    rw here refl

pub returns-in-Some-clause-rest : goal.returns-in-Some-clause-rest
returns-in-Some-clause-rest c =
    let found = rw c.as_str.ensures.bytes at c.in-Some.ensures.cases in
    let here =
    given_first c.args.name.now c.first-item.result c.in-Some.value.now c.args.words.now found.0 c.in-len1-up.len_at_least c.first-item.is found.1.0 found.1.1 found.2 in
    rw (here, rest_is 1 c.args.words.now) refl

pub returns-in-None-clause-value : goal.returns-in-None-clause-value
returns-in-None-clause-value c =
    let here =
    given_other c.args.name.now c.first-item.result c.args.words.now c.in-len1-up.len_at_least c.first-item.is (rw c.as_str.ensures.bytes at c.in-None.ensures.cases) in
    rw here refl

pub returns-in-None-clause-rest : goal.returns-in-None-clause-rest
returns-in-None-clause-rest c =
    let here =
    given_other c.args.name.now c.first-item.result c.args.words.now c.in-len1-up.len_at_least c.first-item.is (rw c.as_str.ensures.bytes at c.in-None.ensures.cases) in
    rw here refl
