-- Which payloads are matched: each value is of the variant by which it would be read.
use Rattle.std.specs.Prelude.{Some, None, IsSome}
use Rattle.kmip_tags.specs.Tags.{REQUEST_PAYLOAD}
use Rattle.kmip_shape.specs.Val.{Val}
use Rattle.kmip_shape.specs.Shape.{OuterValue, NoCase}
use Rattle.kmip_shape.specs.Trees.{tree_of}
use Rattle.kmip_shape.specs.Fits.{selected_in}
use Rattle.kmip_enums.specs.Operations.{operation_line}
use Rattle.kmip_enums.specs.declared.operation.Operation.{Operation}
use Rattle.kmip_request.specs.declared.payload.RequestPayload.{RequestPayload}
use Rattle.kmip_request.specs.Message.{operation_of}
use Rattle.kmip_request.specs.Tables.{request_payload}
use Rattle.kmip_request.specs.Values.{request_payload_val}

-- what a payload is chosen by: the number of its operation (KMIP 1.0, 7.2)
abbrev pub under_number : Operation → OuterValue
under_number operation = record { number = Some (operation_line operation).number; name = None }

-- A payload of an operation, as a value, is matched where it has a tree and each value in it is
-- selected.
--
-- It has a tree exactly where no child of a custom structure writes a structure and no key material
-- is `Structure` or `Wrapped`. What is selected goes by the payload's table, choice by choice:
-- - the value of an attribute is of the variant that the attribute's name selects, and under a name
--   outside the table of the variant of its item's type (KMIP 1.0, 2.1.1 and 3);
-- - a child of a custom structure is of the variant of its item's type, so it is of one of the nine
--   plain variants;
-- - key material is `Bytes` in a key block of one of the formats 1 to 6, and the transparent key of
--   the format in one of the formats 7 to 13; a key block of another format has none (KMIP 1.0,
--   2.1.3 and 2.1.7);
-- - the payload is that of its operation, and an object is under its own tag, which always holds;
-- - no optional list is `Some` of an empty list.
abbrev pub IsMatchedValue : Operation → Val → Type 0
IsMatchedValue operation payload =
    IsSome (tree_of request_payload REQUEST_PAYLOAD payload) ×
    selected_in payload NoCase request_payload (under_number operation) REQUEST_PAYLOAD

abbrev pub IsMatched : RequestPayload → Type 0
IsMatched payload = IsMatchedValue (operation_of payload) (request_payload_val payload)
