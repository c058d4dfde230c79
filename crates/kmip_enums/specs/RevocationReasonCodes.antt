-- Written by tables/generate.py from tables/*.toml: change these instead.
-- The reasons for a revocation: KMIP 1.2, 9.1.3.2.
use Rattle.std.specs.Prelude.{List, [], ◌∷◌, map, codes}
use Rattle.std.proofs.Common.{rules}
use Rattle.kmip_shape.specs.Val.{Val}
use Rattle.kmip_shape.specs.Shape.{Entry}
use Rattle.kmip_shape.specs.Same.{IsFaithful}
use Rattle.kmip_shape.specs.Enumerations.{entry, enumeration_val, AreFound, same_variant}
use Rattle.kmip_enums.specs.declared.revocation_reason_code.RevocationReasonCode.{RevocationReasonCode}
use Rattle.kmip_enums.specs.declared.revocation_reason_code.RevocationReasonCode.TheVariants.{Unspecified, KeyCompromise, CACompromise, AffiliationChanged, Superseded, CessationOfOperation, PrivilegeWithdrawn}

-- the number and the name of each
abbrev pub revocation_reason_code_line : RevocationReasonCode → Entry
revocation_reason_code_line Unspecified = entry 0x1 (codes "Unspecified")
revocation_reason_code_line KeyCompromise = entry 0x2 (codes "KeyCompromise")
revocation_reason_code_line CACompromise = entry 0x3 (codes "CACompromise")
revocation_reason_code_line AffiliationChanged = entry 0x4 (codes "AffiliationChanged")
revocation_reason_code_line Superseded = entry 0x5 (codes "Superseded")
revocation_reason_code_line CessationOfOperation = entry 0x6 (codes "CessationOfOperation")
revocation_reason_code_line PrivilegeWithdrawn = entry 0x7 (codes "PrivilegeWithdrawn")

-- in the order of their numbers
abbrev pub revocation_reason_code_variants : List RevocationReasonCode
revocation_reason_code_variants =
    Unspecified ∷ KeyCompromise ∷ CACompromise ∷ AffiliationChanged ∷ Superseded ∷
    CessationOfOperation ∷ PrivilegeWithdrawn ∷ []

abbrev pub revocation_reason_codes : List Entry
revocation_reason_codes = map revocation_reason_code_line revocation_reason_code_variants

abbrev pub revocation_reason_code_val : RevocationReasonCode → Val
revocation_reason_code_val = enumeration_val revocation_reason_code_line

pub revocation_reason_code_found : AreFound revocation_reason_code_line
    revocation_reason_code_variants
revocation_reason_code_found x = search rules

pub revocation_reason_code_same : IsFaithful revocation_reason_code_val
revocation_reason_code_same =
    same_variant revocation_reason_code_line revocation_reason_code_variants
    revocation_reason_code_found
