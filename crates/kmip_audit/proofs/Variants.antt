-- A variant, back from its number, and several batch items.
use Rattle.std.proofs.Common.{◌≡◌, ◌≤◌, List, [], ◌∷◌, length, refl, arith, Bool, true, false, Option, Some, None}
use Rattle.kmip_shape.specs.Val.{Val}
use Rattle.kmip_shape.specs.Writes.{optional, vals}
use Rattle.kmip_shape.specs.Enumerations.{enumeration_val}
use Rattle.kmip_enums.specs.Operations.{operation_line, operation_found}
use Rattle.kmip_enums.specs.ResultReasons.{result_reason_line, result_reason_found}
use Rattle.kmip_enums.specs.declared.operation.Operation.{Operation}
use Rattle.kmip_enums.specs.declared.result_reason.ResultReason.{ResultReason}
use Rattle.kmip_client.specs.Check.{one_of}
use Rattle.kmip_audit.specs.Outcomes.{reason_in, operation_in, items_outcome}
use Rattle.kmip_audit.specs.declared.outcomes.Outcome.TheVariants.{NotOne}

pub reason_back : (reason : Option ResultReason)
    → reason_in (one_of (optional (enumeration_val result_reason_line) reason)) ≡ reason
reason_back None = refl
reason_back (Some reason) = result_reason_found reason

pub operation_back : (operation : Option Operation)
    → operation_in (one_of (optional (enumeration_val operation_line) operation)) ≡ operation
operation_back None = refl
operation_back (Some operation) = operation_found operation

-- more batch items than one
pub several : {T : Type 0} (operation : Operation) (told : Bool) (val : T → Val) (xs : List T)
    → 2 ≤ length xs → items_outcome operation told (vals val xs) ≡ NotOne
several operation told val [] h = absurd (omega arith)
several operation told val (x ∷ []) h = absurd (omega arith)
several operation true val (x ∷ y ∷ xs) h = refl
several operation false val (x ∷ y ∷ xs) h = refl
