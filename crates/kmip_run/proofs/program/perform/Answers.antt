use Rattle.std.proofs.lemmas.Result.{err_from_is_err_and}
use Rattle.kmip_run.specs.Script.{lines_of}
use Rattle.kmip_run.specs.Setup.{settings_for}
use Rattle.kmip_run.proofs.Pieces.{unwritten}
use Rattle.kmip_run.proofs.Whole.{explains, makes, audits, joins}
use Rattle.kmip_run.proofs.program.perform.Goals as goal

pub returns-in_err-explain-in-Explain-clause-performs : goal.returns-in_err-explain-in-Explain-clause-performs
returns-in_err-explain-in-Explain-clause-performs g c =
    let p = err_from_is_err_and c.from_residual.result c.from_residual.ensures.1 in
    rw p.1 (unwritten p.0 p.2)

pub returns-in_ok-explain-in-Explain-clause-performs : goal.returns-in_ok-explain-in-Explain-clause-performs
returns-in_ok-explain-in-Explain-clause-performs g c =
    rw c.in-Explain.is (explains c.args.link.now (g.K.Sink.state c.args.sink.now) (lines_of c.args.script.now)
    c.in_ok-explain-in-Explain.field-0 c.args.output.now c.explain.new.output c.in_ok-explain-in-Explain.ensures.status c.in_ok-explain-in-Explain.ensures.text)

pub returns-in_err-make_on-in-Make-clause-performs : goal.returns-in_err-make_on-in-Make-clause-performs
returns-in_err-make_on-in-Make-clause-performs g c =
    let p = err_from_is_err_and c.from_residual-in_err-make_on-in-Make.result c.from_residual-in_err-make_on-in-Make.ensures.1 in
    rw p.1 (unwritten p.0 p.2)

pub returns-in_ok-make_on-in-Make-clause-performs : goal.returns-in_ok-make_on-in-Make-clause-performs
returns-in_ok-make_on-in-Make-clause-performs g c =
    rw c.in-Make.is (makes (g.K.Sink.state c.args.sink.now) c.in_ok-make_on-in-Make.field-0 (rw c.requires at c.in_ok-make_on-in-Make.ensures))

pub returns-in_err-audit_script-in-Audit-clause-performs : goal.returns-in_err-audit_script-in-Audit-clause-performs
returns-in_err-audit_script-in-Audit-clause-performs g c =
    let p = err_from_is_err_and c.from_residual-in_err-audit_script-in-Audit.result c.from_residual-in_err-audit_script-in-Audit.ensures.1 in
    rw p.1 (unwritten p.0 p.2)

pub returns-in_ok-audit_script-in-Audit-clause-performs : goal.returns-in_ok-audit_script-in-Audit-clause-performs
returns-in_ok-audit_script-in-Audit-clause-performs g c =
    rw c.in-Audit.is (audits c.args.link.now (g.K.Sink.state c.args.sink.now) (lines_of c.args.script.now)
    c.in_ok-audit_script-in-Audit.field-0 c.args.output.now c.audit_script.new.output c.in_ok-audit_script-in-Audit.ensures.status c.in_ok-audit_script-in-Audit.ensures.text)

pub returns-in_err-run_joined-in-Joined-clause-performs : goal.returns-in_err-run_joined-in-Joined-clause-performs
returns-in_err-run_joined-in-Joined-clause-performs g c =
    let p = err_from_is_err_and c.from_residual-in_err-run_joined-in-Joined.result c.from_residual-in_err-run_joined-in-Joined.ensures.1 in
    rw p.1 (unwritten p.0 p.2)

pub returns-in_ok-run_joined-in-Joined-clause-performs : goal.returns-in_ok-run_joined-in-Joined-clause-performs
returns-in_ok-run_joined-in-Joined-clause-performs g c =
    rw c.in-Joined.is (joins c.args.link.now (g.K.Sink.state c.args.sink.now) (settings_for c.in-Joined.options) (lines_of c.args.script.now)
    c.in_ok-run_joined-in-Joined.field-0 c.args.output.now c.run_joined.new.output c.in_ok-run_joined-in-Joined.ensures.status c.in_ok-run_joined-in-Joined.ensures.text)
