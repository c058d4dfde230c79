use Rattle.kmip_caller.proofs.Refusing.{nothing_written, refusal_written}
use Rattle.kmip_caller.proofs.refusal.refuse_words.Goals as goal

pub returns-in-Ok-clause-written : goal.returns-in-Ok-clause-written
returns-in-Ok-clause-written g c =
    refusal_written c.args.order.now _ (g.K.Sink.state c.args.errors.now) (g.K.Sink.state c.refuse.new.errors)
    c.in-Ok.text c.as_str.result.now c.as_str.ensures.bytes c.in-Ok.ensures c.refuse.ensures.line
    c.refuse.ensures.part

pub returns-in-Err-clause-written : goal.returns-in-Err-clause-written
returns-in-Err-clause-written g c = nothing_written c.args.order.now (g.K.Sink.state c.args.errors.now)
