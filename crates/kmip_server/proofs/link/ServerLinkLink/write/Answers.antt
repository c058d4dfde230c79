use Rattle.std.proofs.Common.{◌≡◌, refl, ap, sym, arith}
use Rattle.std.proofs.lemmas.Grind.{common_steps}
use Rattle.kmip_server.specs.Link.{kept_in, is_memory}
use Rattle.kmip_server.proofs.Accepts.{writes_ok, writes_formless}
use Rattle.kmip_server.proofs.link.ServerLinkLink.write.Goals as goal

pub returns-in-Ok-clause-answers : goal.returns-in-Ok-clause-answers
returns-in-Ok-clause-answers g c =
    let none : c.self.inside.faults ≡ 0 = grind (arith, common_steps) in
    rw (← c.self.view_is)
    (writes_ok g.M.Maker.state _ _ c.args.bytes.now c.in-Ok.count none refl refl
    (c.in-Ok.ensures.effect c.self.invariant.begun_is))

pub returns-in-Err-NoForm-clause-answers : goal.returns-in-Err-NoForm-clause-answers
returns-in-Err-NoForm-clause-answers g c =
    let none : c.self.inside.faults ≡ 0 = grind (arith, common_steps) in
    rw (← c.self.view_is)
    (writes_formless g.M.Maker.state _ _ c.args.bytes.now c.in-Err-NoForm.field-0 none refl
    (ap is_memory c.in-Err-NoForm.field-0-is) (sym (ap kept_in c.in-Err-NoForm.field-0-is))
    (c.in-Err-NoForm.ensures.effect c.self.invariant.begun_is))
