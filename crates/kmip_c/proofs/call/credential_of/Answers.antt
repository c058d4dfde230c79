use Rattle.std.proofs.Common.{sym}
use Rattle.kmip_c.proofs.Calls.{no_user, no_password, both}
use Rattle.kmip_c.proofs.call.credential_of.Goals as goal

pub returns-in_default : goal.returns-in_default
returns-in_default c = sym
    (no_user c.args.has_credential c.args.user.now c.args.password.now c.if-not-has_credential.false c.in_default.ensures.cases.0)

pub returns-in_default-from_utf8 : goal.returns-in_default-from_utf8
returns-in_default-from_utf8 c =
    sym
    (no_password c.args.has_credential c.args.user.now c.args.password.now c.if-not-has_credential.false c.in-Ok.ensures.cases.1 c.in_default-from_utf8.ensures.cases.0)

pub returns : goal.returns
returns c =
    let wanted =
    both c.args.has_credential c.args.user.now c.args.password.now c.if-not-has_credential.false c.in-Ok.ensures.cases.1 c.in-Ok-from_utf8.ensures.cases.1 in
    rw (
      c.in_ok-user.ensures,
      c.in_ok-password.ensures,
      c.in-Ok.ensures.cases.0,
      c.in-Ok-from_utf8.ensures.cases.0,
    ) (sym wanted)
