use Rattle.std.proofs.Common.{◌≡◌, ◌≤◌, length, arith, ◌∙◌, ap, sym, IsTrue, None, Some, vec_len}
use Rattle.kmip_caller.specs.Wire.{contents_of}
use Rattle.kmip_caller.proofs.Messages.{one_head, one_message_or, head_taken, message_taken_or, head_part, contents_part}
use Rattle.kmip_caller.proofs.exchange.read_message.Goals as goal

pub returns-in_err-read_up_to-clause-part : goal.returns-in_err-read_up_to-clause-part
returns-in_err-read_up_to-clause-part g c = λ visible. head_part c.args.limit (c.read_up_to.ensures.part visible)

pub returns-in-Some-clause-one : goal.returns-in-Some-clause-one
returns-in-Some-clause-one g c =
    let contents : contents_of c.read_up_to.new.script.items c.args.limit ≡ Some c.in-Some.count =
    ap (λ b. contents_of b c.args.limit) (sym c.deref.ensures.value) ∙ sym c.in-Some.ensures in
    let few : length c.read_up_to.new.script.items ≤ 8 =
    omega (arith, c.in_ok-read_up_to.ensures.grown, ap length c.requires) in
    one_message_or c.read_up_to-in-Some.result c.read_up_to.new.script.items c.read_up_to-in-Some.new.script.items c.args.limit c.in-Some.count (vec_len c.read_up_to.new.script) (vec_len c.read_up_to-in-Some.new.script) few contents c.read_up_to-in-Some.ensures.kept (omega arith) (omega arith) c.read_up_to-in-Some.ensures.grown

pub returns-in-Some-clause-taken : goal.returns-in-Some-clause-taken
returns-in-Some-clause-taken g c =
    let contents : contents_of c.read_up_to.new.script.items c.args.limit ≡ Some c.in-Some.count =
    ap (λ b. contents_of b c.args.limit) (sym c.deref.ensures.value) ∙ sym c.in-Some.ensures in
    message_taken_or (g.S.Source.state c.args.source.now) (g.S.Source.state c.read_up_to.new.source)
    (g.S.Source.state c.read_up_to-in-Some.new.source)
    (IsTrue (g.S.Source.state c.args.source.now).tells)
    (IsTrue (g.S.Source.state c.read_up_to.new.source).tells)
    c.read_up_to-in-Some.result c.read_up_to.new.script.items c.read_up_to-in-Some.new.script.items c.args.limit c.in-Some.count contents
    (λ visible. rw c.read_up_to.ensures.keeps.tells visible)
    (λ visible. let it = c.in_ok-read_up_to.ensures.ok visible in (it.0, rw c.requires at it.1))
    c.read_up_to-in-Some.ensures.ok

pub returns-in-Some-clause-part : goal.returns-in-Some-clause-part
returns-in-Some-clause-part g c = λ visible.
    let contents : contents_of c.read_up_to.new.script.items c.args.limit ≡ Some c.in-Some.count =
    ap (λ b. contents_of b c.args.limit) (sym c.deref.ensures.value) ∙ sym c.in-Some.ensures in
    let it = c.in_ok-read_up_to.ensures.ok visible in
    contents_part c.read_up_to.new.script.items c.args.limit c.in-Some.count it.0
    (rw c.requires at it.1) contents
    (c.read_up_to-in-Some.ensures.part (rw c.read_up_to.ensures.keeps.tells visible))

pub returns-in-None-clause-one : goal.returns-in-None-clause-one
returns-in-None-clause-one g c =
    let contents : contents_of c.read_up_to.new.script.items c.args.limit ≡ None =
    ap (λ b. contents_of b c.args.limit) (sym c.deref.ensures.value) ∙ sym c.in-None.ensures in
    let few : length c.read_up_to.new.script.items ≤ 8 =
    omega (arith, c.in_ok-read_up_to.ensures.grown, ap length c.requires) in
    one_head c.read_up_to.new.script.items c.args.limit few contents

pub returns-in-None-clause-taken : goal.returns-in-None-clause-taken
returns-in-None-clause-taken g c = λ visible.
    let contents : contents_of c.read_up_to.new.script.items c.args.limit ≡ None =
    ap (λ b. contents_of b c.args.limit) (sym c.deref.ensures.value) ∙ sym c.in-None.ensures in
    let it = c.in_ok-read_up_to.ensures.ok visible in
    head_taken c.read_up_to.new.script.items c.args.limit it.0 (rw c.requires at it.1) contents

pub returns-in-None-clause-part : goal.returns-in-None-clause-part
returns-in-None-clause-part g c = λ visible. head_part c.args.limit (c.read_up_to.ensures.part visible)

pub returns-in-Some-clause-ahead : goal.returns-in-Some-clause-ahead
returns-in-Some-clause-ahead g c = omega
    (arith, c.read_up_to.ensures.ahead, c.read_up_to-in-Some.ensures.ahead, c.read_up_to-in-Some.ensures.longer)
