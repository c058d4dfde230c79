-- Written by tables/generate.py from tables/*.toml: change these instead.
-- The reasons for a failure: KMIP 1.2, 9.1.3.2.
use Rattle.std.specs.Prelude.{List, [], ◌∷◌, map, codes}
use Rattle.std.proofs.Common.{rules}
use Rattle.kmip_shape.specs.Val.{Val}
use Rattle.kmip_shape.specs.Shape.{Entry}
use Rattle.kmip_shape.specs.Same.{IsFaithful}
use Rattle.kmip_shape.specs.Enumerations.{entry, enumeration_val, AreFound, same_variant}
use Rattle.kmip_enums.specs.declared.result_reason.ResultReason.{ResultReason}
use Rattle.kmip_enums.specs.declared.result_reason.ResultReason.TheVariants.{ItemNotFound, ResponseTooLarge, AuthenticationNotSuccessful, InvalidMessage, OperationNotSupported, MissingData, InvalidField, FeatureNotSupported, OperationCanceledByRequester, CryptographicFailure, IllegalOperation, PermissionDenied, ObjectArchived, IndexOutOfBounds, ApplicationNamespaceNotSupported, KeyFormatTypeNotSupported, KeyCompressionTypeNotSupported, GeneralFailure}

-- the number and the name of each
abbrev pub result_reason_line : ResultReason → Entry
result_reason_line ItemNotFound = entry 0x1 (codes "ItemNotFound")
result_reason_line ResponseTooLarge = entry 0x2 (codes "ResponseTooLarge")
result_reason_line AuthenticationNotSuccessful = entry 0x3 (codes "AuthenticationNotSuccessful")
result_reason_line InvalidMessage = entry 0x4 (codes "InvalidMessage")
result_reason_line OperationNotSupported = entry 0x5 (codes "OperationNotSupported")
result_reason_line MissingData = entry 0x6 (codes "MissingData")
result_reason_line InvalidField = entry 0x7 (codes "InvalidField")
result_reason_line FeatureNotSupported = entry 0x8 (codes "FeatureNotSupported")
result_reason_line OperationCanceledByRequester = entry 0x9 (codes "OperationCanceledByRequester")
result_reason_line CryptographicFailure = entry 0xa (codes "CryptographicFailure")
result_reason_line IllegalOperation = entry 0xb (codes "IllegalOperation")
result_reason_line PermissionDenied = entry 0xc (codes "PermissionDenied")
result_reason_line ObjectArchived = entry 0xd (codes "ObjectArchived")
result_reason_line IndexOutOfBounds = entry 0xe (codes "IndexOutOfBounds")
result_reason_line ApplicationNamespaceNotSupported =
    entry 0xf (codes "ApplicationNamespaceNotSupported")
result_reason_line KeyFormatTypeNotSupported = entry 0x10 (codes "KeyFormatTypeNotSupported")
result_reason_line KeyCompressionTypeNotSupported =
    entry 0x11 (codes "KeyCompressionTypeNotSupported")
result_reason_line GeneralFailure = entry 0x100 (codes "GeneralFailure")

-- in the order of their numbers
abbrev pub result_reason_variants : List ResultReason
result_reason_variants =
    ItemNotFound ∷ ResponseTooLarge ∷ AuthenticationNotSuccessful ∷ InvalidMessage ∷
    OperationNotSupported ∷ MissingData ∷ InvalidField ∷ FeatureNotSupported ∷
    OperationCanceledByRequester ∷ CryptographicFailure ∷ IllegalOperation ∷ PermissionDenied ∷
    ObjectArchived ∷ IndexOutOfBounds ∷ ApplicationNamespaceNotSupported ∷
    KeyFormatTypeNotSupported ∷ KeyCompressionTypeNotSupported ∷ GeneralFailure ∷ []

abbrev pub result_reasons : List Entry
result_reasons = map result_reason_line result_reason_variants

abbrev pub result_reason_val : ResultReason → Val
result_reason_val = enumeration_val result_reason_line

pub result_reason_found : AreFound result_reason_line result_reason_variants
result_reason_found x = search rules

pub result_reason_same : IsFaithful result_reason_val
result_reason_same = same_variant result_reason_line result_reason_variants result_reason_found
