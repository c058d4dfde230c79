use Rattle.std.proofs.Common.{◌∙◌}
use Rattle.kmip_caller.proofs.Orders.{optioned_words_are}
use Rattle.kmip_caller.proofs.words.optioned_words.Goals as goal

pub returns : goal.returns
returns c =
    c.payload_words.ensures
    ∙ optioned_words_are c.args.name.now c.args.words.now _ _ _ _ _ _ c.option_given.ensures.value c.option_given.ensures.rest c.option_given-2.ensures.value c.option_given-2.ensures.rest c.given_or.ensures.value c.given_or.ensures.rest
