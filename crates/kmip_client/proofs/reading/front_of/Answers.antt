use Rattle.std.proofs.Common.{◌∙◌, sym, ap, arith}
use Rattle.kmip_wire.specs.Heads.{head_says}
use Rattle.kmip_client.proofs.Messages.{message_short, message_refused, message_cut, message_whole}
use Rattle.kmip_client.proofs.reading.front_of.Goals as goal

pub returns-in_default : goal.returns-in_default
returns-in_default c = sym (message_short c.args.bytes.now c.args.config.now.max_bytes c.in_default.ensures.cases)

pub returns-then-bytes-size : goal.returns-then-bytes-size
returns-then-bytes-size c =
    sym (message_cut c.args.bytes.now c.args.config.now.max_bytes c.in-Ok.len c.in-Some.ensures.cases.enough
    (ap (λ b. head_says b c.args.config.now.max_bytes) (sym c.in-Some.ensures.cases.same) ∙ sym c.in-Ok.ensures)
    c.if-bytes-size.true)

pub returns-else-bytes-size : goal.returns-else-bytes-size
returns-else-bytes-size c =
    sym (message_whole c.args.bytes.now c.args.config.now.max_bytes c.in-Ok.len c.in-Some.ensures.cases.enough
    (ap (λ b. head_says b c.args.config.now.max_bytes) (sym c.in-Some.ensures.cases.same) ∙ sym c.in-Ok.ensures)
    (omega (arith, c.if-bytes-size.false)))

pub returns-in-Err : goal.returns-in-Err
returns-in-Err c =
    sym (message_refused c.args.bytes.now c.args.config.now.max_bytes c.in-Err.error c.in-Some.ensures.cases.enough
    (ap (λ b. head_says b c.args.config.now.max_bytes) (sym c.in-Some.ensures.cases.same) ∙ sym c.in-Err.ensures))
