use Rattle.std.proofs.Common.{◌+◌, ◌-◌, drop, ◌++◌, ◌∙◌, arith, refl}
use Rattle.kmip_words.specs.Exchange.{settings_of}
use Rattle.kmip_run.proofs.Makes.{none_made, next_made, under_same, all_made, one_in_all}
use Rattle.kmip_run.proofs.make.make_calls.Goals as goal

pub loop-done-init : goal.loop-done-init
loop-done-init c = record {
  settings = refl;
  within = omega arith;
  answers = refl;
  bytes =
      omega arith;
  so_far = none_made _ _ _ _ _;
}

pub loop-done-preserved : goal.loop-done-preserved
loop-done-preserved c =
    let i = c.loop-done.invariant in
    let it = c.in_ok-recorded.recorded in
    record {
      settings = c.in_ok-failed.ensures.settings ∙ i.settings;
      within = omega (arith, c.loop-done-test.true);
      answers = omega (
        arith,
        i.answers,
        one_in_all c.in_ok-failed.failed,
        c.count_exchange-tally.ensures.ok,
        c.count_exchange-tally.ensures.errors,
      );
      bytes = omega (arith, i.bytes, c.count_exchange-tally.ensures.taken);
      so_far =
          let makes = under_same _ _ it.call it.response
          (drop c.loop-done.client.link.pos c.loop-done.client.link.ever ++ it.response)
          i.settings c.in_ok-failed.ensures.makes in
          rw (
            c.count_exchange-tally.ensures.ok,
            c.count_exchange-tally.ensures.errors,
            c.count_exchange-tally.ensures.taken,
          )
          (next_made (settings_of c.args.client.now) it (c.args.count - c.loop-done.done)
          (c.args.count - (c.loop-done.done + 1)) c.loop-done.x c.next_of-x.result
          c.loop-done.tally.ok c.loop-done.tally.errors c.loop-done.tally.taken c.in_ok-failed.taken
          (omega (arith, c.loop-done-test.true))
          c.next_of-x.ensures c.in_ok-recorded.ensures i.so_far makes);
    }

pub returns : goal.returns
returns c =
    all_made (settings_of c.args.client.now)
    (c.args.count - c.loop-done.done)
    c.loop-done.x c.loop-done.tally.ok c.loop-done.tally.errors c.loop-done.tally.taken
    (omega (arith, c.loop-done-test.false)) c.loop-done.invariant.so_far
