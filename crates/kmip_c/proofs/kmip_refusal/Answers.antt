use Rattle.std.proofs.Common.{◌∙◌, ap, refl, rules, w64, SFits, pos, length, List, ℕ}
use Rattle.std.proofs.lemmas.Int.{to_z-of_z}
use Rattle.kmip_exports.specs.Exports.{room_with}
use Rattle.kmip_c.specs.Calls.{IsExplained}
use Rattle.kmip_c.proofs.kmip_refusal.Goals as goal

pub returns-in-Ok-Some-clause-refusal : goal.returns-in-Ok-Some-clause-refusal
returns-in-Ok-Some-clause-refusal c = λ some.
    let told : SFits w64 c.copy_out.result = search rules in
    let none = rw c.in-Ok-Some.field-0-is at c.in-Ok-Some.ensures in
    let text = c.as_bytes.ensures.value ∙ c.as_str.ensures.bytes in
    rw (to_z-of_z w64 c.copy_out.result told)
    (IsExplained.no_call none.0 c.in-Ok-Some.text none.1 (
      c.copy_out.ensures.len ∙ ap (λ (x : List ℕ). pos (length x)) text,
      c.copy_out.ensures.room ∙ ap (λ (x : List ℕ). room_with x c.args.into.now) text,
    ))

pub returns-in-Ok-None-clause-refusal : goal.returns-in-Ok-None-clause-refusal
returns-in-Ok-None-clause-refusal c = λ some.
    let asked = rw c.in-Ok-None.field-0-is at c.in-Ok-None.ensures in
    IsExplained.a_call asked (refl, refl)
