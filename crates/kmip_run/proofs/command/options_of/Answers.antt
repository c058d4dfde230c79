use Rattle.std.proofs.Common.{◌∙◌, ap, sym, option_map, List, ℕ, Bor}
use Rattle.kmip_run.proofs.Options.{options_of_is, with_more, with_limit, with_bad_limit, with_no_limit}
use Rattle.kmip_run.proofs.command.options_of.Goals as goal

pub returns-in_default : goal.returns-in_default
returns-in_default c =
    let is =
    options_of_is c.args.words.now _ _ _ _ _ _ _ c.option_given.ensures.value c.option_given.ensures.rest c.given_after.ensures.value c.given_after.ensures.rest c.option_given-2.ensures.value c.option_given-2.ensures.rest c.diag_of.ensures in
    sym (is ∙ with_more _ _ _ _ c.in_default.is)

pub returns-in-Some-number_of : goal.returns-in-Some-number_of
returns-in-Some-number_of c =
    let is =
    options_of_is c.args.words.now _ _ _ _ _ _ _ c.option_given.ensures.value c.option_given.ensures.rest c.given_after.ensures.value c.given_after.ensures.rest c.option_given-2.ensures.value c.option_given-2.ensures.rest c.diag_of.ensures in
    rw (is ∙ with_limit _ _ _ _ c.in-Some-limit.limit.now c.in-Some-number_of.limit c.in-Some.diag
    (ap (option_map (λ (v : Bor (List ℕ)). v.now)) c.in-Some-limit.is)
    c.in-Some.is c.in-Some-number_of.ensures) c.options_with.ensures

pub returns-in-None-number_of : goal.returns-in-None-number_of
returns-in-None-number_of c =
    let is =
    options_of_is c.args.words.now _ _ _ _ _ _ _ c.option_given.ensures.value c.option_given.ensures.rest c.given_after.ensures.value c.given_after.ensures.rest c.option_given-2.ensures.value c.option_given-2.ensures.rest c.diag_of.ensures in
    sym (is ∙ with_bad_limit _ _ _ _ c.in-Some-limit.limit.now c.in-Some.diag
    (ap (option_map (λ (v : Bor (List ℕ)). v.now)) c.in-Some-limit.is)
    c.in-Some.is c.in-None-number_of.ensures)

pub returns-in-None : goal.returns-in-None
returns-in-None c =
    let is =
    options_of_is c.args.words.now _ _ _ _ _ _ _ c.option_given.ensures.value c.option_given.ensures.rest c.given_after.ensures.value c.given_after.ensures.rest c.option_given-2.ensures.value c.option_given-2.ensures.rest c.diag_of.ensures in
    rw (is ∙ with_no_limit _ _ _ _ c.in-Some.diag
    (ap (option_map (λ (v : Bor (List ℕ)). v.now)) c.in-None.is) c.in-Some.is)
    c.options_with-in-None.ensures
