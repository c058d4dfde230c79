use Rattle.std.proofs.Common.{rules, w64, SFits, refl}
use Rattle.std.proofs.lemmas.Int.{to_z-of_z}
use Rattle.kmip_c.specs.Operations.{IsOperationRefused}
use Rattle.kmip_c.proofs.kmip_operation_refusal.Goals as goal

pub returns-in-Ok-Some-clause-refusal : goal.returns-in-Ok-Some-clause-refusal
returns-in-Ok-Some-clause-refusal c = λ some.
    let told : SFits w64 c.copy_out.result = search rules in
    let none = rw c.in-Ok-Some.field-0-is at c.in-Ok-Some.ensures in
    rw (to_z-of_z w64 c.copy_out.result told)
    (IsOperationRefused.refused none _ (c.copy_out.ensures.len, c.copy_out.ensures.room))

pub returns-in-Ok-None-clause-refusal : goal.returns-in-Ok-None-clause-refusal
returns-in-Ok-None-clause-refusal c = λ some.
    let asks = rw c.in-Ok-None.field-0-is at c.in-Ok-None.ensures in
    IsOperationRefused.asked asks (refl, refl)
