use Rattle.std.proofs.Common.{◌≡◌, arith, ◌++◌, ◌∙◌, ap, length}
use Rattle.kmip_client.proofs.Transfers.{read_in_place}
use Rattle.kmip_client.proofs.transfer.read_piece.Goals as goal

pub returns-else-got-eq0-clause-ok : goal.returns-else-got-eq0-clause-ok
returns-else-got-eq0-clause-ok g c = λ tells.
    let m = c.in-Ok.ensures.moved tells in
    let len : c.len-len.result ≡ length c.args.taken.now.items = grind (arith, c.len-len.ensures) in (
      record { within = m.within; pos = m.pos; ever = m.ever; sent = m.sent },
      c.truncate.ensures.items
          ∙ read_in_place c.args.taken.now.items c.deref_mut.result.now c.read.new.into _ _ c.len-len.result c.in-Ok.got c.lengthen.new.taken.len
          (rw (c.deref_mut.ensures.value, len) c.lengthen.ensures.kept) len
          (omega (arith, c.in-Ok.ensures.bound))
          (omega (arith, c.in-Ok.ensures.bound, c.in_ok-lengthen.ensures.ok))
          ∙ ap (λ l. c.args.taken.now.items ++ l) m.bytes,
    )
