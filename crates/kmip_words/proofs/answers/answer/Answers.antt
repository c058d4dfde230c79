use Rattle.kmip_client.specs.Outcome.{answer_with_payload}
use Rattle.kmip_words.proofs.Exchanges.{answer_shown, of_call}
use Rattle.kmip_words.proofs.answers.answer.Goals as goal

pub show_answer-requires : goal.show_answer-requires
show_answer-requires c =
    of_call c.in_ok-request.request c.args.call c.do_request-answer.result c.in_ok-request.ensures c.do_request-answer.ensures.variant

pub returns : goal.returns
returns c =
    answer_shown c.args.style c.args.call c.in_ok-request.request
    (answer_with_payload c.do_request-answer.result)
    c.show_answer.result c.args.line.now c.show_answer.new.line
    c.in_ok-request.ensures c.do_request-answer.ensures.call c.show_answer.ensures.shown
