use Rattle.std.proofs.Common.{◌≤◌, ◌+◌, arith}
use Rattle.kmip_client.proofs.Transfers.{keeps_on, takes_on, bytes_on, takes_part_on, kept_on}
use Rattle.kmip_client.proofs.transfer.read_more.Goals as goal

pub loop-done-preserved : goal.loop-done-preserved
loop-done-preserved g c =
    let i = c.loop-done.invariant in
    let within : c.loop-done.done + c.in_ok-done.field-0 ≤ c.args.count = omega (arith, c.in_ok-done.ensures.some) in
    record {
      within = within;
      grown = omega (arith, c.in_ok-done.ensures.some);
      ahead = omega (arith, i.ahead, c.read_piece.ensures.ahead, c.in_ok-done.ensures.some);
      kept = kept_on _ _ _ i.kept c.read_piece.ensures.kept;
      keeps = keeps_on i.keeps c.read_piece.ensures.keeps;
      takes = λ tells. takes_on (i.takes tells) (c.in_ok-done.ensures.ok (rw i.keeps.tells tells)).0;
      bytes = λ tells. let now = c.in_ok-done.ensures.ok (rw i.keeps.tells tells) in
          rw (now.1, i.bytes tells) (bytes_on c.in_ok-done.field-0 c.args.taken.now.items (i.takes tells));
    }

pub returns-in_err-done-clause-part : goal.returns-in_err-done-clause-part
returns-in_err-done-clause-part g c = λ tells.
    let i = c.loop-done.invariant in
    takes_part_on c.min-room.result c.args.count (i.takes tells)
    (c.read_piece.ensures.part (rw i.keeps.tells tells)) (omega arith)

pub returns-in_err-done-clause-kept : goal.returns-in_err-done-clause-kept
returns-in_err-done-clause-kept g c = kept_on _ _ _ c.loop-done.invariant.kept c.read_piece.ensures.kept
