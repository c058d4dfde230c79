use Rattle.std.proofs.Common.{rules, ◌∙◌, ap, SFits, w64, pos, length, List, ℕ}
use Rattle.std.proofs.lemmas.Int.{to_z-of_z}
use Rattle.kmip_faults.specs.Fault.{fault_text}
use Rattle.kmip_faults.proofs.Faultless.{empty_where}
use Rattle.kmip_web.proofs.web_fault.Goals as goal

pub returns-in-Ok-clause-none : goal.returns-in-Ok-clause-none
returns-in-Ok-clause-none c = λ some.
    let told : SFits w64 c.copy_out.result = search rules in
    let text = c.as_bytes.ensures.value ∙ c.as_str.ensures.bytes ∙ c.in-Ok.ensures ∙ ap fault_text c.fault_of.ensures in
    rw (to_z-of_z w64 c.copy_out.result told)
    (empty_where c.args.bytes.now c.copy_out.result
    (c.copy_out.ensures.len ∙ ap (λ (x : List ℕ). pos (length x)) text))
