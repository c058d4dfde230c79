use Rattle.std.proofs.Common.{◌≡◌, ℕ, ◌<◌, ◌≤◌, List, length, get_or, sym, ap, ◌∙◌, arith}
use Rattle.kmip_encodings.proofs.Items.{known_more, known_not, known_done}
use Rattle.kmip_encodings.proofs.read_json.are_known.Goals as goal

below : {X : Type 0} (xs ys : List X) (i : ℕ) → xs ≡ ys → i < length xs → i < length ys
below xs ys i e h = omega (arith, ap length e)

past : {X : Type 0} (xs ys : List X) (i : ℕ) → xs ≡ ys → length xs ≤ i → length ys ≤ i
past xs ys i e h = omega (arith, ap length e)

pub loop-member-preserved : goal.loop-member-preserved
loop-member-preserved c =
    let same = c.deref-member-items.ensures.value in
    let m = c.member-item.result in
    let i = c.loop-member.member-index in
    known_more c.args.members.now.items i m _ (below _ _ i same c.loop-member-test.true)
    (c.member-item.is ∙ ap (λ l. get_or l i m) same)
    (sym c.is_known.ensures ∙ c.if-not-is_known.false) c.loop-member.invariant

pub returns-then-not-is_known : goal.returns-then-not-is_known
returns-then-not-is_known c =
    let same = c.deref-member-items.ensures.value in
    let m = c.member-item.result in
    let i = c.loop-member.member-index in
    sym (known_not c.args.members.now.items i m _ (below _ _ i same c.loop-member-test.true)
    (c.member-item.is ∙ ap (λ l. get_or l i m) same)
    (sym c.is_known.ensures ∙ c.if-not-is_known.true) c.loop-member.invariant)

pub returns : goal.returns
returns c = sym (known_done c.args.members.now.items c.loop-member.member-index _
    (past _ _ c.loop-member.member-index c.deref-member-items.ensures.value c.loop-member-test.false) c.loop-member.invariant)
