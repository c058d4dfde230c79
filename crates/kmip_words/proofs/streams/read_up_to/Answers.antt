use Rattle.std.proofs.Common.{arith}
use Rattle.kmip_words.proofs.Moves.{source_keeps_on, gives_on, gives_part_on, bytes_on, kept_on}
use Rattle.kmip_words.proofs.streams.read_up_to.Goals as goal

pub loop-done-preserved : goal.loop-done-preserved
loop-done-preserved g c =
    let i = c.loop-done.invariant in
    record {
      within = omega (arith, c.in_ok-got.ensures.bound);
      room = i.room;
      grown = omega (arith, c.in_ok-got.ensures.grown);
      ahead = omega (arith, i.ahead, c.read_piece.ensures.ahead, c.in_ok-got.ensures.grown);
      kept = kept_on _ _ _ i.kept c.read_piece.ensures.kept;
      keeps = source_keeps_on i.keeps c.read_piece.ensures.keeps;
      gives = λ tells. gives_on (i.gives tells) (c.in_ok-got.ensures.ok (rw i.keeps.tells tells)).0;
      bytes = λ tells. rw ((c.in_ok-got.ensures.ok (rw i.keeps.tells tells)).1, i.bytes tells)
          (bytes_on c.in_ok-got.got c.args.script.now.items (i.gives tells));
    }

pub returns-in_err-got-clause-part : goal.returns-in_err-got-clause-part
returns-in_err-got-clause-part g c = λ tells.
    let i = c.loop-done.invariant in
    gives_part_on c.min-room.result c.args.count (i.gives tells)
    (c.read_piece.ensures.part (rw i.keeps.tells tells)) (omega arith)

pub returns-then-got-eq0-clause-part : goal.returns-then-got-eq0-clause-part
returns-then-got-eq0-clause-part g c = λ tells.
    let i = c.loop-done.invariant in
    gives_part_on c.min-room.result c.args.count (i.gives tells)
    (c.read_piece.ensures.part (rw i.keeps.tells tells)) (omega arith)

pub returns-in_err-got-clause-longer : goal.returns-in_err-got-clause-longer
returns-in_err-got-clause-longer g c = omega (arith, c.loop-done.invariant.grown, c.in_err-got.ensures.err)

pub returns-in_err-got-clause-ahead : goal.returns-in_err-got-clause-ahead
returns-in_err-got-clause-ahead g c =
    omega (arith, c.loop-done.invariant.ahead, c.read_piece.ensures.ahead, c.in_err-got.ensures.err)

pub returns-then-got-eq0-clause-longer : goal.returns-then-got-eq0-clause-longer
returns-then-got-eq0-clause-longer g c = omega (arith, c.loop-done.invariant.grown, c.in_ok-got.ensures.grown)

pub returns-then-got-eq0-clause-ahead : goal.returns-then-got-eq0-clause-ahead
returns-then-got-eq0-clause-ahead g c =
    omega (arith, c.loop-done.invariant.ahead, c.read_piece.ensures.ahead, c.in_ok-got.ensures.grown)
