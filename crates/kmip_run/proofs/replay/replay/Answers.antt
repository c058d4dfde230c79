use Rattle.std.proofs.Common.{◌≡◌, ◌+◌, ◌++◌, drop, ◌∙◌, ap, sym, arith, refl, length, Err}
use Rattle.std.proofs.lemmas.Bool.Decides.{nat_tests}
use Rattle.std.proofs.lemmas.Result.{err_from_is_err_and}
use Rattle.kmip_words.specs.Exchange.{Settings, settings_of}
use Rattle.kmip_run.proofs.Runs.{under}
use Rattle.kmip_run.proofs.Pieces.{nothing_shown, call_shown, moved_on, bad_performed, none_performed, cut_off, ran_out}
use Rattle.kmip_run.proofs.replay.replay.Goals as goal

pub loop-rest-init : goal.loop-rest-init
loop-rest-init g c = record { settings = refl; counted = omega arith; short = λ short. short; shows = nothing_shown _ _ _ _ }

pub exchange-requires : goal.exchange-requires
exchange-requires g c = c.requires ∙ sym (ap (λ (s : Settings). s.buffered) c.loop-rest.invariant.settings)

pub loop-rest-preserved : goal.loop-rest-preserved
loop-rest-preserved g c =
    let i = c.loop-rest.invariant in
    let is = rw c.in-Some.is at c.in_ok-recorded.ensures in
    let shows = call_shown (settings_of c.args.client.now)
    c.in-Some.recorded c.loop-rest.rest.now c.first_line.result.0.now c.first_line.result.1.now
    (c.loop-rest.number + 1)
    c.loop-rest.end c.end_after-end.result c.first_line.ensures.lines is c.end_after-end.ensures i.shows
    (under (settings_of c.loop-rest.client)
    (settings_of c.args.client.now) c.in-Some.recorded.call c.in-Some.recorded.response
    (drop c.loop-rest.client.link.pos c.loop-rest.client.link.ever
    ++ c.in-Some.recorded.response) i.settings c.in_ok-failed.ensures.runs) in
    record {
      settings = c.in_ok-failed.ensures.settings ∙ i.settings;
      counted = omega (arith, c.first_line.ensures.shorter);
      short = λ _. c.in_ok-write_if_long.ensures.short;
      shows = moved_on shows c.write_if_long.ensures.keeps c.in_ok-write_if_long.ensures.moved;
    }

pub returns-in_err-recorded-clause-performs : goal.returns-in_err-recorded-clause-performs
returns-in_err-recorded-clause-performs g c =
    let p = err_from_is_err_and c.from_residual.result c.from_residual.ensures.1 in
    rw p.1 (ran_out p.0 p.2 c.loop-rest.invariant.shows)

pub returns-in_err-show_bad_line-clause-performs : goal.returns-in_err-show_bad_line-clause-performs
returns-in_err-show_bad_line-clause-performs g c =
    let p = err_from_is_err_and c.from_residual-in_err-show_bad_line.result c.from_residual-in_err-show_bad_line.ensures.1 in
    rw p.1 (ran_out p.0 p.2 c.loop-rest.invariant.shows)

pub returns-in_err-failed-clause-performs : goal.returns-in_err-failed-clause-performs
returns-in_err-failed-clause-performs g c =
    let p = err_from_is_err_and c.from_residual-in_err-failed.result c.from_residual-in_err-failed.ensures.1 in
    rw p.1 (ran_out p.0 p.2 c.loop-rest.invariant.shows)

pub returns-in_err-write_if_long-clause-performs : goal.returns-in_err-write_if_long-clause-performs
returns-in_err-write_if_long-clause-performs g c =
    let i = c.loop-rest.invariant in
    let p = err_from_is_err_and c.from_residual-in_err-write_if_long.result c.from_residual-in_err-write_if_long.ensures.1 in
    let is = rw c.in-Some.is at c.in_ok-recorded.ensures in
    let shows = call_shown (settings_of c.args.client.now)
    c.in-Some.recorded c.loop-rest.rest.now c.first_line.result.0.now c.first_line.result.1.now
    (c.loop-rest.number + 1)
    c.loop-rest.end _ c.first_line.ensures.lines is refl i.shows
    (under (settings_of c.loop-rest.client)
    (settings_of c.args.client.now) c.in-Some.recorded.call c.in-Some.recorded.response
    (drop c.loop-rest.client.link.pos c.loop-rest.client.link.ever
    ++ c.in-Some.recorded.response) i.settings c.in_ok-failed.ensures.runs) in
    rw p.1 (cut_off p.0 shows c.write_if_long.ensures.keeps c.in_err-write_if_long.ensures.part
    (λ is. c.in_err-write_if_long.ensures.cause (ap Err (sym p.2 ∙ is))))

pub returns-in_default-clause-performs : goal.returns-in_default-clause-performs
returns-in_default-clause-performs g c =
    let is = rw c.in_default.is at c.in_ok-recorded.ensures in
    rw c.in_ok-show_bad_line.ensures
    (bad_performed (settings_of c.args.client.now) c.loop-rest.rest.now c.first_line.result.0.now c.first_line.result.1.now
    (c.loop-rest.number + 1) c.loop-rest.end c.first_line.ensures.lines is c.loop-rest.invariant.shows)

pub returns-clause-performs : goal.returns-clause-performs
returns-clause-performs g c =
    let none : length c.loop-rest.rest.now ≡ 0 = grind (arith, nat_tests) in
    none_performed (settings_of c.args.client.now) c.loop-rest.rest.now
    (c.loop-rest.number + 1) c.loop-rest.end none c.loop-rest.invariant.shows
