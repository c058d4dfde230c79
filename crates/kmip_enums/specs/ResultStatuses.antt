-- Written by tables/generate.py from tables/*.toml: change these instead.
-- The ways in which an operation ends: KMIP 1.2, 9.1.3.2.
use Rattle.std.specs.Prelude.{List, [], ◌∷◌, map, codes}
use Rattle.std.proofs.Common.{rules}
use Rattle.kmip_shape.specs.Val.{Val}
use Rattle.kmip_shape.specs.Shape.{Entry}
use Rattle.kmip_shape.specs.Same.{IsFaithful}
use Rattle.kmip_shape.specs.Enumerations.{entry, enumeration_val, AreFound, same_variant}
use Rattle.kmip_enums.specs.declared.result_status.ResultStatus.{ResultStatus}
use Rattle.kmip_enums.specs.declared.result_status.ResultStatus.TheVariants.{Success, OperationFailed, OperationPending, OperationUndone}

-- the number and the name of each
abbrev pub result_status_line : ResultStatus → Entry
result_status_line Success = entry 0x0 (codes "Success")
result_status_line OperationFailed = entry 0x1 (codes "OperationFailed")
result_status_line OperationPending = entry 0x2 (codes "OperationPending")
result_status_line OperationUndone = entry 0x3 (codes "OperationUndone")

-- in the order of their numbers
abbrev pub result_status_variants : List ResultStatus
result_status_variants = Success ∷ OperationFailed ∷ OperationPending ∷ OperationUndone ∷ []

abbrev pub result_statuses : List Entry
result_statuses = map result_status_line result_status_variants

abbrev pub result_status_val : ResultStatus → Val
result_status_val = enumeration_val result_status_line

pub result_status_found : AreFound result_status_line result_status_variants
result_status_found x = search rules

pub result_status_same : IsFaithful result_status_val
result_status_same = same_variant result_status_line result_status_variants result_status_found
