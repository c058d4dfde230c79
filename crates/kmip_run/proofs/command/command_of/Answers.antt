use Rattle.std.proofs.Common.{◌∙◌, sym}
use Rattle.kmip_run.proofs.Lines.{rest_is}
use Rattle.kmip_run.proofs.Options.{command_of_replay, command_of_explain, command_of_make, command_of_audit, command_of_joined, command_of_other, command_of_none}
use Rattle.kmip_run.proofs.command.command_of.Goals as goal

pub returns-in_default : goal.returns-in_default
returns-in_default c = sym (command_of_none c.args.words.now c.in_default.len_below)

pub returns-in-replay : goal.returns-in-replay
returns-in-replay c =
    rw
    (command_of_replay c.args.words.now c.name-item.result c.in-len1-up.len_at_least c.name-item.is (sym c.as_str.ensures.bytes ∙ c.in-replay.is), ← rest_is 1 c.args.words.now) c.replay_of.ensures

pub returns-in-explain : goal.returns-in-explain
returns-in-explain c =
    rw
    (command_of_explain c.args.words.now c.name-item.result c.in-len1-up.len_at_least c.name-item.is (λ is. c.in-explain.not-replay (c.as_str.ensures.bytes ∙ is)) (sym c.as_str.ensures.bytes ∙ c.in-explain.is), ← rest_is 1 c.args.words.now) c.explain_of.ensures

pub returns-in-make : goal.returns-in-make
returns-in-make c =
    rw (
      command_of_make c.args.words.now c.name-item.result c.in-len1-up.len_at_least c.name-item.is
          (λ is. c.in-make.not-replay (c.as_str.ensures.bytes ∙ is))
          (λ is. c.in-make.not-explain (c.as_str.ensures.bytes ∙ is))
          (sym c.as_str.ensures.bytes ∙ c.in-make.is),
      ← rest_is 1 c.args.words.now,
    ) c.make_of.ensures

pub returns-in-audit : goal.returns-in-audit
returns-in-audit c =
    rw
    (command_of_audit c.args.words.now c.name-item.result c.in-len1-up.len_at_least c.name-item.is (λ is. c.in-audit.not-replay (c.as_str.ensures.bytes ∙ is)) (λ is. c.in-audit.not-explain (c.as_str.ensures.bytes ∙ is)) (λ is. c.in-audit.not-make (c.as_str.ensures.bytes ∙ is)) (sym c.as_str.ensures.bytes ∙ c.in-audit.is), ← rest_is 1 c.args.words.now) c.audit_of.ensures

pub returns-in-joined : goal.returns-in-joined
returns-in-joined c =
    rw
    (command_of_joined c.args.words.now c.name-item.result c.in-len1-up.len_at_least c.name-item.is (λ is. c.in-joined.not-replay (c.as_str.ensures.bytes ∙ is)) (λ is. c.in-joined.not-explain (c.as_str.ensures.bytes ∙ is)) (λ is. c.in-joined.not-make (c.as_str.ensures.bytes ∙ is)) (λ is. c.in-joined.not-audit (c.as_str.ensures.bytes ∙ is)) (sym c.as_str.ensures.bytes ∙ c.in-joined.is), ← rest_is 1 c.args.words.now) c.joined_of.ensures

pub returns-in_default-as_str : goal.returns-in_default-as_str
returns-in_default-as_str c =
    sym
    (command_of_other c.args.words.now c.name-item.result c.in-len1-up.len_at_least c.name-item.is (λ is. c.in_default-as_str.not-replay (c.as_str.ensures.bytes ∙ is)) (λ is. c.in_default-as_str.not-explain (c.as_str.ensures.bytes ∙ is)) (λ is. c.in_default-as_str.not-make (c.as_str.ensures.bytes ∙ is)) (λ is. c.in_default-as_str.not-audit (c.as_str.ensures.bytes ∙ is)) (λ is. c.in_default-as_str.not-joined (c.as_str.ensures.bytes ∙ is)))
