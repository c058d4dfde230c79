use Rattle.std.proofs.Common.{◌≡◌, take, sym, ◌∙◌, ap, arith, None, Ok, Err}
use Rattle.kmip_wire.specs.Heads.{head_says}
use Rattle.kmip_audit.proofs.Framing.{front_short, front_refused, front_torn, front_whole}
use Rattle.kmip_audit.proofs.frames.front_frame.Goals as goal

pub returns-in_default : goal.returns-in_default
returns-in_default c = sym (front_short c.args.bytes.now c.in_default.ensures.cases)

pub returns-in_default-head : goal.returns-in_default-head
returns-in_default-head c =
    let first = c.in-Some.ensures.cases in
    let says : head_says (take 8 c.args.bytes.now) None ≡ Err c.in_default-head.field-0 =
    ap (λ b. head_says b None) (sym first.same)
    ∙ ap (λ limit. head_says c.in-Some.first.now limit) (sym c.new.ensures.max_bytes)
    ∙ sym c.head.ensures ∙ c.in_default-head.is in
    sym (front_refused c.args.bytes.now c.in_default-head.field-0 first.enough says)

pub returns-then-bytes-size : goal.returns-then-bytes-size
returns-then-bytes-size c =
    let first = c.in-Some.ensures.cases in
    let says : head_says (take 8 c.args.bytes.now) None ≡ Ok c.in-Ok.len =
    ap (λ b. head_says b None) (sym first.same)
    ∙ ap (λ limit. head_says c.in-Some.first.now limit) (sym c.new.ensures.max_bytes)
    ∙ sym c.head.ensures ∙ c.in-Ok.is in
    sym (front_torn c.args.bytes.now c.in-Ok.len first.enough says c.if-bytes-size.true)

pub returns : goal.returns
returns c =
    let first = c.in-Some.ensures.cases in
    let says : head_says (take 8 c.args.bytes.now) None ≡ Ok c.in-Ok.len =
    ap (λ b. head_says b None) (sym first.same)
    ∙ ap (λ limit. head_says c.in-Some.first.now limit) (sym c.new.ensures.max_bytes)
    ∙ sym c.head.ensures ∙ c.in-Ok.is in
    sym (front_whole c.args.bytes.now c.in-Ok.len first.enough says (omega (arith, c.if-bytes-size.false)))
