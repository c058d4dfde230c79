use Rattle.std.proofs.Common.{◌≡◌, ◌-◌, ◌<◌, ◌≤◌, List, Option, Some, None, length, rules, arith}
use Rattle.std.proofs.lemmas.Grind.{common_steps}
use Rattle.kmip_xml.specs.Reading.{Adds, all_contents, inner, item, start, start_of, whole}
use Rattle.kmip_xml.proofs.Turns.{on_turn, on_last, turn_fails, no_turns, no_level, a_level, inner_fails, whole_none, item_read}
use Rattle.kmip_xml.proofs.read.+read.Goals as goal

-- ---- turn by turn

pub read_contents-returns-in-Err : goal.read_contents-returns-in-Err
read_contents-returns-in-Err t c =
    turn_fails c.in-Err.error (item c.args.levels) c.loop.trees (length c.args.text.now) c.loop.counter
    c.loop.named c.loop.rest.now (all_contents (item c.args.levels) c.args.text.now)
    (omega (arith, c.loop-test.true)) c.in-Err.ensures c.loop.invariant.1

pub read_contents-returns-in-Ok-None : goal.read_contents-returns-in-Ok-None
read_contents-returns-in-Ok-None t c =
    on_last (item c.args.levels) c.loop.trees (length c.args.text.now) c.loop.counter c.loop.named
    c.loop.rest.now c.in-Ok.read.0 c.in-Ok.read.1.now c.add.new.trees
    (all_contents (item c.args.levels) c.args.text.now) (omega (arith, c.loop-test.true))
    c.in-Ok.ensures (rw c.in-Ok-None.field-0-is at c.in-Ok-None.ensures) c.loop.invariant.1

pub read_contents-loop-preserved : goal.read_contents-loop-preserved
read_contents-loop-preserved t c = (
  search rules,
  on_turn (item c.args.levels) c.loop.trees (length c.args.text.now) c.loop.counter
      c.loop.named c.loop.rest.now c.in-Ok.read.0 c.in-Ok.read.1.now c.add.new.trees c.in-Ok-Some.next
      (all_contents (item c.args.levels) c.args.text.now) (omega (arith, c.loop-test.true))
      c.in-Ok.ensures (rw c.in-Ok-Some.field-0-is at c.in-Ok-Some.ensures) c.loop.invariant.1,
)

pub read_contents-returns : goal.read_contents-returns
read_contents-returns t c =
    no_turns (item c.args.levels) c.loop.trees (length c.args.text.now) c.loop.counter c.loop.named
    c.loop.rest.now (all_contents (item c.args.levels) c.args.text.now)
    (omega (arith, c.loop-test.false)) c.loop.invariant.1

-- ---- an element

pub read_item-returns-then-levels-eq0 : goal.read_item-returns-then-levels-eq0
read_item-returns-then-levels-eq0 t c =
    no_level c.args.levels c.args.named c.args.text.now c.if-levels-eq0.true

pub read_item-returns-in_err-start : goal.read_item-returns-in_err-start
read_item-returns-in_err-start t c =
    let begins = a_level c.args.levels c.args.named c.args.text.now c.if-levels-eq0.false in
    grind (arith, common_steps)

pub read_item-returns-in-Some : goal.read_item-returns-in-Some
read_item-returns-in-Some t c =
    item_read c.args.levels c.args.named c.args.text.now (start_of c.in_ok-start.start)
    c.in_ok-start.rest.now c.in-Ok.items c.in-Ok.behind.now c.in-Some.tree c.if-levels-eq0.false
    c.in_ok-start.ensures c.in-Ok.ensures c.in-Some.ensures

pub read_item-returns-in-None : goal.read_item-returns-in-None
read_item-returns-in-None t c =
    let a = start_of c.in_ok-start.start in
    let begun : start c.args.named c.args.text.now ≡ Some (a, c.in_ok-start.rest.now) =
    grind (arith, common_steps) in
    let read : inner (item (c.args.levels - 1)) a.name a.closed c.in_ok-start.rest.now
    ≡ Some (c.in-Ok.items, c.in-Ok.behind.now) = grind (arith, common_steps) in
    let no_whole : None ≡ whole a.tag a.leaf c.in-Ok.items = grind (arith, common_steps) in
    whole_none c.args.levels c.args.named c.args.text.now a c.in_ok-start.rest.now c.in-Ok.items
    c.in-Ok.behind.now c.if-levels-eq0.false begun read no_whole

pub read_item-returns-in-Err : goal.read_item-returns-in-Err
read_item-returns-in-Err t c =
    inner_fails c.in-Err.error c.args.levels c.args.named c.args.text.now (start_of c.in_ok-start.start)
    c.in_ok-start.rest.now c.if-levels-eq0.false c.in_ok-start.ensures c.in-Err.ensures
