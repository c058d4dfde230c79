use Rattle.std.proofs.Common.{◌∙◌, sym}
use Rattle.kmip_run.proofs.Explained.{expanded_utf8, expanded_other}
use Rattle.kmip_run.proofs.explain.line_expansion.Goals as goal

pub returns-in_default : goal.returns-in_default
returns-in_default c = sym (expanded_other c.args.line.now c.in_default.ensures.cases.0)

pub returns-in-Ok-expand : goal.returns-in-Ok-expand
returns-in-Ok-expand c =
    let is = rw (c.requires, c.in-Ok.ensures.cases.0) at c.in-Ok-expand.ensures in
    sym (expanded_utf8 c.args.line.now c.in-Ok.ensures.cases.1 ∙ is)

pub returns-in-Err-NotADiagnostic : goal.returns-in-Err-NotADiagnostic
returns-in-Err-NotADiagnostic c =
    let is = rw (c.requires, c.in-Ok.ensures.cases.0) at
    (c.in-Err-NotADiagnostic.ensures c.in-Err-NotADiagnostic.field-0-is) in
    sym (expanded_utf8 c.args.line.now c.in-Ok.ensures.cases.1 ∙ is)
