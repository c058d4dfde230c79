use Rattle.std.proofs.Common.{◌∙◌, ap, sym, option_map, List, ℕ, Bor}
use Rattle.kmip_caller.proofs.Orders.{order_of_is, with_limit, with_bad_limit, with_no_limit}
use Rattle.kmip_caller.proofs.command.order_of.Goals as goal

pub returns-in-Some-number_of : goal.returns-in-Some-number_of
returns-in-Some-number_of c =
    let is =
    order_of_is _ c.args.words.now _ _ _ _ _ _ _ _ _ c.option_given.ensures.value c.option_given.ensures.rest c.given_after.ensures.value c.given_after.ensures.rest c.option_given-2.ensures.value c.option_given-2.ensures.rest c.option_given-3.ensures.value c.option_given-3.ensures.rest c.first_of-password.ensures in
    rw (is ∙ with_limit _ _ _ _ c.in-Some.limit.now c.in-Some-number_of.limit
    (ap (option_map (λ (v : Bor (List ℕ)). v.now)) c.in-Some.is) c.in-Some-number_of.ensures)
    (rw c.limit_of.ensures at c.order_with.ensures)

pub returns-in-None-number_of : goal.returns-in-None-number_of
returns-in-None-number_of c =
    let is =
    order_of_is _ c.args.words.now _ _ _ _ _ _ _ _ _ c.option_given.ensures.value c.option_given.ensures.rest c.given_after.ensures.value c.given_after.ensures.rest c.option_given-2.ensures.value c.option_given-2.ensures.rest c.option_given-3.ensures.value c.option_given-3.ensures.rest c.first_of-password.ensures in
    sym (is ∙ with_bad_limit _ _ _ _ c.in-Some.limit.now
    (ap (option_map (λ (v : Bor (List ℕ)). v.now)) c.in-Some.is) c.in-None-number_of.ensures)

pub returns-in-None : goal.returns-in-None
returns-in-None c =
    let is =
    order_of_is _ c.args.words.now _ _ _ _ _ _ _ _ _ c.option_given.ensures.value c.option_given.ensures.rest c.given_after.ensures.value c.given_after.ensures.rest c.option_given-2.ensures.value c.option_given-2.ensures.rest c.option_given-3.ensures.value c.option_given-3.ensures.rest c.first_of-password.ensures in
    rw (is ∙ with_no_limit _ _ _ _ (ap (option_map (λ (v : Bor (List ℕ)). v.now)) c.in-None.is))
    c.order_with-in-None.ensures
