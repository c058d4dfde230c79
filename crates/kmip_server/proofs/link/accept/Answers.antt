use Rattle.std.proofs.Common.{◌≡◌, ◌++◌, ◌-◌, length, take, ap, sym, subst, ◌∙◌, arith, Err, [], refl}
use Rattle.std.proofs.lemmas.Grind.{common_steps}
use Rattle.kmip_server.specs.Split.{Split, CutsMessage}
use Rattle.kmip_server.proofs.Accepts.{not_whole, is_whole, held_not_whole, held_whole, given_of, accepted_as, cut_whole, formless_of, did_not_whole, did_whole, did_formless}
use Rattle.kmip_server_core.specs.State.{AnswersRequest}
use Rattle.kmip_server.specs.declared.link.Refusal.{Refusal}
use Rattle.kmip_server.proofs.Splits.{append_none}
use Rattle.kmip_server.proofs.link.accept.Goals as goal

pub returns-then-not-whole-clause-held : goal.returns-then-not-whole-clause-held
returns-then-not-whole-clause-held g c tells held =
    let takes : CutsMessage c.args.begun.now.items c.args.bytes.now c.in_ok-message.message.items c.in_ok-message.whole = rw (← c.deref.ensures.value) c.in_ok-message.ensures in
    let sent : c.extend_from_slice.new.self.items
    ≡ c.args.sent.now.items ++ take
    (length c.in_ok-message.message.items - length c.args.begun.now.items) c.args.bytes.now =
    grind (arith, common_steps) in
    held_not_whole _ _ _ _ _ _ _ _ _ takes c.if-not-whole.true sent held

pub returns-then-not-whole-clause-begun : goal.returns-then-not-whole-clause-begun
returns-then-not-whole-clause-begun g c is =
    let takes : CutsMessage c.args.begun.now.items c.args.bytes.now c.in_ok-message.message.items c.in_ok-message.whole = rw (← c.deref.ensures.value) c.in_ok-message.ensures in
    let sent : c.extend_from_slice.new.self.items
    ≡ c.args.sent.now.items ++ take
    (length c.in_ok-message.message.items - length c.args.begun.now.items) c.args.bytes.now =
    grind (arith, common_steps) in
    ap (λ (x : Split). x.begun) (sym (not_whole _ _ _ _ _ _ takes c.if-not-whole.true sent is))

pub returns-in_ok-grow_both-in-Ok-clause-held : goal.returns-in_ok-grow_both-in-Ok-clause-held
returns-in_ok-grow_both-in-Ok-clause-held g c tells held =
    let takes : CutsMessage c.args.begun.now.items c.args.bytes.now c.in_ok-message.message.items c.in_ok-message.whole = rw (← c.deref.ensures.value) c.in_ok-message.ensures in
    let sent : c.grow_both.new.sent.items
    ≡ c.args.sent.now.items ++ take
    (length c.in_ok-message.message.items - length c.args.begun.now.items) c.args.bytes.now =
    grind (arith, common_steps) in
    let ever : c.grow_both.new.ever.items ≡ c.args.ever.now.items ++ c.in-Ok.response =
    c.in_ok-grow_both-in-Ok.ensures.ever
    ∙ ap (λ x. c.args.ever.now.items ++ x) c.as_slice.ensures in
    let none : c.new.result.items ≡ [] = c.new.ensures.items in
    rw none
    (held_whole _ _ _ _ _ _ _ _ _ c.in_ok-message.message.items c.in-Ok.response _ takes c.if-not-whole.false sent ever c.answer.ensures.time
    (given_of c.in-Ok.response tells (rw c.deref-2.ensures.value at c.in-Ok.ensures.answers) refl) held)

pub returns-in_ok-grow_both-in-Ok-clause-begun : goal.returns-in_ok-grow_both-in-Ok-clause-begun
returns-in_ok-grow_both-in-Ok-clause-begun g c is =
    let takes : CutsMessage c.args.begun.now.items c.args.bytes.now c.in_ok-message.message.items c.in_ok-message.whole = rw (← c.deref.ensures.value) c.in_ok-message.ensures in
    let sent : c.grow_both.new.sent.items
    ≡ c.args.sent.now.items ++ take
    (length c.in_ok-message.message.items - length c.args.begun.now.items) c.args.bytes.now =
    grind (arith, common_steps) in
    c.new.ensures.items ∙ ap (λ (x : Split). x.begun) (sym (is_whole _ _ _ _ _ _ takes c.if-not-whole.false sent is))

pub returns-then-not-whole-clause-ok : goal.returns-then-not-whole-clause-ok
returns-then-not-whole-clause-ok g c =
    let takes : CutsMessage c.args.begun.now.items c.args.bytes.now c.in_ok-message.message.items c.in_ok-message.whole = rw (← c.deref.ensures.value) c.in_ok-message.ensures in
    let sent : c.extend_from_slice.new.self.items
    ≡ c.args.sent.now.items ++ take
    (length c.in_ok-message.message.items - length c.args.begun.now.items) c.args.bytes.now =
    grind (arith, common_steps) in
    let count : c.len.result - c.len-2.result
    ≡ length c.in_ok-message.message.items - length c.args.begun.now.items =
    grind (arith, common_steps) in
    rw count
    (accepted_as c.args.ever.now.items c.args.ever.now.items [] c.args.sent.now.items _ c.args.begun.now.items c.args.bytes.now c.in_ok-message.message.items c.in_ok-message.whole takes sent (append_none c.args.ever.now.items))

pub returns-in-Err-NoForm-clause-refused : goal.returns-in-Err-NoForm-clause-refused
returns-in-Err-NoForm-clause-refused g c tells held =
    let takes : CutsMessage c.args.begun.now.items c.args.bytes.now c.in_ok-message.message.items c.in_ok-message.whole = rw (← c.deref.ensures.value) c.in_ok-message.ensures in
    cut_whole _ _ _ _ _ _ c.args.bytes.now c.in_ok-message.message.items _ takes c.if-not-whole.false c.answer.ensures.time
    (formless_of tells (rw c.deref-2.ensures.value at c.in-Err-NoForm.ensures.answers)
    (ap Err c.in-Err-NoForm.field-0-is)) held

pub returns-then-not-whole-clause-effect : goal.returns-then-not-whole-clause-effect
returns-then-not-whole-clause-effect g c is =
    let takes : CutsMessage c.args.begun.now.items c.args.bytes.now c.in_ok-message.message.items c.in_ok-message.whole = rw (← c.deref.ensures.value) c.in_ok-message.ensures in
    let sent : c.extend_from_slice.new.self.items
    ≡ c.args.sent.now.items ++ take
    (length c.in_ok-message.message.items - length c.args.begun.now.items) c.args.bytes.now =
    grind (arith, common_steps) in
    let count : c.len.result - c.len-2.result
    ≡ length c.in_ok-message.message.items - length c.args.begun.now.items =
    grind (arith, common_steps) in
    did_not_whole _ _ _ _ _ _ _ _ _ _ takes c.if-not-whole.true count sent is

pub returns-in_ok-grow_both-in-Ok-clause-effect : goal.returns-in_ok-grow_both-in-Ok-clause-effect
returns-in_ok-grow_both-in-Ok-clause-effect g c is =
    let takes : CutsMessage c.args.begun.now.items c.args.bytes.now c.in_ok-message.message.items c.in_ok-message.whole = rw (← c.deref.ensures.value) c.in_ok-message.ensures in
    let sent : c.grow_both.new.sent.items
    ≡ c.args.sent.now.items ++ take
    (length c.in_ok-message.message.items - length c.args.begun.now.items) c.args.bytes.now =
    grind (arith, common_steps) in
    let ever : c.grow_both.new.ever.items ≡ c.args.ever.now.items ++ c.in-Ok.response =
    c.in_ok-grow_both-in-Ok.ensures.ever
    ∙ ap (λ x. c.args.ever.now.items ++ x) c.as_slice.ensures in
    did_whole _ _ _ _ _ _ _ _ _ c.in_ok-message.message.items c.in-Ok.response _ _ takes c.if-not-whole.false sent is (rw c.deref-2.ensures.value at c.in-Ok.ensures.answers) ever

pub returns-in-Err-NoForm-clause-effect : goal.returns-in-Err-NoForm-clause-effect
returns-in-Err-NoForm-clause-effect g c is =
    let takes : CutsMessage c.args.begun.now.items c.args.bytes.now c.in_ok-message.message.items c.in_ok-message.whole = rw (← c.deref.ensures.value) c.in_ok-message.ensures in
    let answers : AnswersRequest g.M.Maker.state c.args.server.now c.answer.new.self c.in_ok-message.message.items (Err c.in-Err-NoForm.field-0) = rw c.deref-2.ensures.value at c.in-Err-NoForm.ensures.answers in
    did_formless _ _ _ _ _ _ _ _ c.args.bytes.now c.in_ok-message.message.items _
    (Refusal.NoForm c.in_ok-message.message) takes c.if-not-whole.false is refl refl
    (subst
    (λ e.
    AnswersRequest g.M.Maker.state c.args.server.now c.answer.new.self c.in_ok-message.message.items (Err e)) c.in-Err-NoForm.field-0-is answers)
