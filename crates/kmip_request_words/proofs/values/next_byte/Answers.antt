use Rattle.std.proofs.Common.{sym}
use Rattle.kmip_request_words.proofs.Rests.{rest_is}
use Rattle.kmip_request_words.proofs.Texts.{at_plain, at_escape, at_short}
use Rattle.kmip_request_words.proofs.values.next_byte.Goals as goal

pub returns-then-word-ne37-clause-next : goal.returns-then-word-ne37-clause-next
returns-then-word-ne37-clause-next c =
    rw (rest_is 1 c.args.word.now) (at_plain c.args.word.now c.requires c.if-word-ne37.true)

pub returns-then-word-lt3-clause-next : goal.returns-then-word-lt3-clause-next
returns-then-word-lt3-clause-next c = at_short c.args.word.now c.requires c.if-word-lt3.true c.if-word-ne37.false

pub returns-in_err-byte-clause-next : goal.returns-in_err-byte-clause-next
returns-in_err-byte-clause-next c =
    let here = at_escape c.args.word.now c.if-word-lt3.false c.if-word-ne37.false in
    rw c.from_residual.ensures (rw (sym c.in_err-byte.ensures) at here)

pub returns-clause-next : goal.returns-clause-next
returns-clause-next c =
    let here = at_escape c.args.word.now c.if-word-lt3.false c.if-word-ne37.false in
    rw (rest_is 3 c.args.word.now) (rw (sym c.in_ok-byte.ensures) at here)
