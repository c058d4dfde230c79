-- What bytes are read as, defined over values alone.
use Rattle.std.specs.Prelude.{ℕ, ℤ, pos, ◌==◌, ◌&&◌, Bool, true, false, List, Option, Some, None, if◌then◌else◌, bytes_eq}
use Rattle.kmip_tags.specs.Tags.{REQUEST_MESSAGE, REQUEST_PAYLOAD}
use Rattle.std.specs.Option.{option_map, option_and_then}
use Rattle.std.specs.Ordering.{int_eq}
use Rattle.kmip_wire.specs.Tree.{Tree}
use Rattle.kmip_wire.specs.Bytes.{bytes}
use Rattle.kmip_wire.specs.Same.{same_tree}
use Rattle.kmip_wire.specs.Reading.{item_of}
use Rattle.kmip_shape.specs.Val.{Val, Number, Record, Case, Absent, One, Many, NoField, AndField, NoVal, AndVal}
use Rattle.kmip_shape.specs.Enumerations.{variant_at}
use Rattle.kmip_shape.specs.Trees.{tree_of}
use Rattle.kmip_shape.specs.Reads.{root_read}
use Rattle.kmip_enums.specs.Operations.{operation_line, operation_variants}
use Rattle.kmip_enums.specs.declared.operation.Operation.{Operation}
use Rattle.kmip_enums.specs.declared.operation.Operation.TheVariants.{Query, DiscoverVersions, Sign, RNGRetrieve}
use Rattle.kmip_types.specs.declared.auth.CredentialType.{CredentialType}
use Rattle.kmip_request.specs.declared.payload.RequestPayload.{RequestPayload}
use Rattle.kmip_request.specs.Tables.{request_message, request_payload}
use Rattle.kmip_request.specs.Values.{request_payload_val}
use Rattle.kmip_request.specs.Message.{operation_of, authentication_trees, header_tree, message_tree}

-- a request without its credential: its operation, and the value of its payload
pub record Request : Type 0 where
  pub operation : Operation
  pub payload : Val

abbrev pub request_for : RequestPayload → Request
request_for payload =
    record { operation = operation_of payload; payload = request_payload_val payload }

-- the minor number of the version of KMIP 1 that a request of the operation is written in
abbrev pub minor_for : Operation → ℕ
minor_for Query = 2
minor_for DiscoverVersions = 1
minor_for Sign = 2
minor_for RNGRetrieve = 2
minor_for _ = 0

-- the one canonical message of a request and a credential, where it has one
abbrev pub message_bytes : Request → Option CredentialType → Option (List ℕ)
message_bytes request credential = option_and_then bytes (option_map
    (message_tree
    (header_tree (minor_for request.operation) (authentication_trees credential))
    (operation_line request.operation).number)
    (tree_of request_payload REQUEST_PAYLOAD request.payload))

-- the request in a batch item that has no identifier, and whose operation is that of its payload
-- (KMIP 1.0, 7.2)
abbrev pub item_request : Val → Option Request
item_request (Record (AndField (One (Number (pos n)))
    (AndField Absent (AndField (One (Case m val)) NoField)))) =
    if m == n then option_map (λ operation. record { operation = operation; payload = Case m val })
    (variant_at operation_line operation_variants n) else None
item_request item = None

-- The header is that of a message with one batch item in this minor version of KMIP 1, without a
-- maximum response size (KMIP 1.0, 7.2).
abbrev pub is_client_header : ℕ → Val → Bool
is_client_header minor
    (Record (AndField (One
    (Record (AndField (One (Number major)) (AndField (One (Number own)) NoField))))
    (AndField Absent (AndField credential (AndField (One (Number count)) NoField))))) =
    int_eq major (pos 1) && (int_eq own (pos minor) && int_eq count (pos 1))
is_client_header minor header = false

abbrev pub under_header : Val → Option Request → Option Request
under_header header None = None
under_header header (Some request) =
    if is_client_header (minor_for request.operation) header then Some request else None

-- the request in a message that is as a client writes it
abbrev pub request_in : Val → Option Request
request_in (Record (AndField (One header) (AndField (Many (AndVal item NoVal)) NoField))) =
    under_header header (item_request item)
request_in message = None

abbrev pub are_bytes : List ℕ → Option (List ℕ) → Bool
are_bytes b None = false
are_bytes b (Some written) = bytes_eq written b

abbrev pub is_tree : Tree → Option Tree → Bool
is_tree tree None = false
is_tree tree (Some written) = same_tree written tree

-- the same, where the message is written as `tree` and that as the bytes `b`
abbrev pub canonical_in : List ℕ → Tree → Val → Option Request
canonical_in b tree message =
    if is_tree tree (tree_of request_message REQUEST_MESSAGE message) && are_bytes b (bytes tree)
    then request_in message else None

-- The request that bytes are: they are one item; the item is read as a message; that is written as
-- the same item and the same bytes; and it is one that a client writes.
unfoldable pub request_read : List ℕ → Option Request
request_read b = option_and_then
    (λ tree. option_and_then (canonical_in b tree) (root_read request_message REQUEST_MESSAGE tree))
    (item_of 64 b)
