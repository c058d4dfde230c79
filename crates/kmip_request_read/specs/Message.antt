-- The messages that are written for a payload, and values that are written as the bytes that they
-- are read from.
use Rattle.std.specs.Prelude.{ℕ, pos, List, [], ◌∷◌, Option, Some, None, ◌≡◌}
use Rattle.kmip_wire.specs.Tree.{Tree}
use Rattle.kmip_shape.specs.Val.{Val}
use Rattle.kmip_shape.specs.Shape.{Shape}
use Rattle.kmip_shape.specs.Reads.{root_read}
use Rattle.kmip_shape.specs.Writes.{bytes_of}
use Rattle.kmip_shape.specs.Fits.{Fits}
use Rattle.kmip_request.specs.declared.authentication.Authentication.{Authentication}
use Rattle.kmip_request.specs.declared.payload.RequestPayload.{RequestPayload}
use Rattle.kmip_request.specs.declared.message.RequestMessage.{RequestMessage}
use Rattle.kmip_request.specs.Message.{version_of, operation_of}

-- the message round a payload and the Authentication of a credential
abbrev pub message_of : RequestPayload → Option Authentication → RequestMessage
message_of payload authentication = record {
  0 = record { 0 = version_of payload; 1 = None; 2 = authentication; 3 = record { 0 = pos 1 } };
  1 = record { 0 = operation_of payload; 1 = None; 2 = payload } ∷ [];
}

-- the message is one that is written for a payload
abbrev pub IsClientMessage : RequestMessage → Type 0
IsClientMessage message = (payload : RequestPayload) × (authentication : Option Authentication) ×
    (message ≡ message_of payload authentication)

-- the value is read from the tree, and written as the bytes
abbrev pub IsWrittenAs : Shape → ℕ → Tree → List ℕ → Val → Type 0
IsWrittenAs shape tag tree bytes val =
    (root_read shape tag tree ≡ Some val) × (bytes_of shape tag val ≡ Some bytes)

-- the same, and the value fits its shape
abbrev pub IsCanonical : Shape → ℕ → Tree → List ℕ → Val → Type 0
IsCanonical shape tag tree bytes val =
    Fits shape val × (root_read shape tag tree ≡ Some val) × (bytes_of shape tag val ≡ Some bytes)
