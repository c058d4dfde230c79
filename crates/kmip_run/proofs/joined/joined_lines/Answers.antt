use Rattle.std.proofs.Common.{◌≡◌, ◌+◌, ◌∙◌, ap, sym, subst, arith, refl, length}
use Rattle.std.proofs.lemmas.Bool.Decides.{nat_tests}
use Rattle.kmip_words.specs.Exchange.{Settings, settings_of}
use Rattle.kmip_joined.specs.Lines.{line_call}
use Rattle.kmip_joined.specs.Reports.{Runs}
use Rattle.kmip_joined.specs.World.{joined_step, world_of}
use Rattle.kmip_run.proofs.Explained.{nothing_yet}
use Rattle.kmip_run.proofs.Joins.{next_call, next_bad, no_more}
use Rattle.kmip_run.proofs.joined.joined_lines.Goals as goal

pub loop-rest-init : goal.loop-rest-init
loop-rest-init c = record {
  settings = refl;
  ready = c.requires.joined;
  counted = omega arith;
  so_far = nothing_yet _ _;
}

pub exchange-requires-clause-buffered : goal.exchange-requires-clause-buffered
exchange-requires-clause-buffered c =
    c.requires.buffered ∙ sym (ap (λ (s : Settings). s.buffered) c.loop-rest.invariant.settings)

pub loop-rest-preserved : goal.loop-rest-preserved
loop-rest-preserved c =
    let i = c.loop-rest.invariant in
    let is = rw c.in-Some.is at c.in_ok-call.ensures in
    record {
      settings = c.in_ok-failed.ensures.settings ∙ i.settings;
      ready = c.in_ok-failed.ensures.joined;
      counted = omega (arith, c.first_line.ensures.shorter);
      so_far = next_call (settings_of c.args.client.now)
          (line_call c.in-Some.call)
          c.loop-rest.rest.now c.first_line.result.0.now c.first_line.result.1.now
          (c.loop-rest.number + 1) c.loop-rest.end c.end_after-end.result
          (world_of c.loop-rest.client.link)
          (world_of c.exchange.new.client.link)
          c.first_line.ensures.lines is c.end_after-end.ensures i.so_far
          (subst (λ (s : Settings). Runs
          (joined_step s (line_call c.in-Some.call) (world_of c.loop-rest.client.link))
          (world_of c.exchange.new.client.link)
          c.in_ok-failed.failed c.loop-rest.output c.exchange.new.output)
          i.settings c.in_ok-failed.ensures.runs);
    }

pub returns-in_default-clause-status : goal.returns-in_default-clause-status
returns-in_default-clause-status c =
    let is = rw c.in_default.is at c.in_ok-call.ensures in
    sym (next_bad (settings_of c.args.client.now)
    c.loop-rest.rest.now c.first_line.result.0.now c.first_line.result.1.now
    (c.loop-rest.number + 1) c.loop-rest.end
    (world_of c.loop-rest.client.link)
    c.first_line.ensures.lines is c.loop-rest.invariant.so_far).status

pub returns-in_default-clause-text : goal.returns-in_default-clause-text
returns-in_default-clause-text c =
    let is = rw c.in_default.is at c.in_ok-call.ensures in
    c.in_ok-show_bad_line.ensures
    ∙ sym (next_bad (settings_of c.args.client.now)
    c.loop-rest.rest.now c.first_line.result.0.now c.first_line.result.1.now
    (c.loop-rest.number + 1) c.loop-rest.end
    (world_of c.loop-rest.client.link)
    c.first_line.ensures.lines is c.loop-rest.invariant.so_far).text

pub returns-clause-status : goal.returns-clause-status
returns-clause-status c =
    let none : length c.loop-rest.rest.now ≡ 0 = grind (arith, nat_tests) in
    sym (no_more (settings_of c.args.client.now) c.loop-rest.rest.now
    (c.loop-rest.number + 1) c.loop-rest.end
    (world_of c.loop-rest.client.link) none c.loop-rest.invariant.so_far).1

pub returns-clause-text : goal.returns-clause-text
returns-clause-text c =
    let none : length c.loop-rest.rest.now ≡ 0 = grind (arith, nat_tests) in
    sym (no_more (settings_of c.args.client.now) c.loop-rest.rest.now
    (c.loop-rest.number + 1) c.loop-rest.end
    (world_of c.loop-rest.client.link) none c.loop-rest.invariant.so_far).0
