-- The message of a request (KMIP 1.0, 7.1), and when there is one.
use Rattle.std.specs.Prelude.{ℕ, pos, List, [], ◌∷◌, ◌++◌, Option, Some, None, IsSome}
use Rattle.kmip_tags.specs.Tags.{AUTHENTICATION, BATCH_COUNT, BATCH_ITEM, CREDENTIAL, CREDENTIAL_TYPE, CREDENTIAL_VALUE, OPERATION, PASSWORD, PROTOCOL_VERSION, PROTOCOL_VERSION_MAJOR, PROTOCOL_VERSION_MINOR, REQUEST_HEADER, REQUEST_MESSAGE, REQUEST_PAYLOAD, USERNAME}
use Rattle.std.specs.Option.{option_map, option_and_then}
use Rattle.kmip_wire.specs.Tree.{Tree, scalar, structure, trees_of, integer, enumeration, text_string}
use Rattle.kmip_wire.specs.Bytes.{bytes}
use Rattle.kmip_shape.specs.Trees.{tree_of}
use Rattle.kmip_types.specs.declared.auth.CredentialType.{CredentialType}
use Rattle.kmip_types.specs.declared.auth.CredentialType.TheVariants.{UsernameAndPassword}
use Rattle.kmip_enums.specs.Operations.{operation_line}
use Rattle.kmip_enums.specs.declared.operation.Operation.{Operation}
use Rattle.kmip_enums.specs.declared.operation.Operation.TheVariants as operations
use Rattle.kmip_request.specs.declared.authentication.Authentication.{Authentication}
use Rattle.kmip_request.specs.declared.authentication.CredentialValue.TheVariants as values
use Rattle.kmip_request.specs.declared.header.ProtocolVersion.{ProtocolVersion}
use Rattle.kmip_request.specs.declared.payload.RequestPayload.{RequestPayload}
use Rattle.kmip_request.specs.declared.payload.RequestPayload.TheVariants.{Create, CreateKeyPair, Register, Locate, Get, GetAttributes, GetAttributeList, AddAttribute, ModifyAttribute, DeleteAttribute, Activate, Revoke, Destroy, Query, DiscoverVersions, Sign, RNGRetrieve}
use Rattle.kmip_request.specs.Tables.{request_payload}
use Rattle.kmip_request.specs.Values.{request_payload_val}

-- the operation that a payload's variant is named after
abbrev pub operation_of : RequestPayload → Operation
operation_of (Create object_type template) = operations.Create
operation_of (CreateKeyPair common private_key public_key) = operations.CreateKeyPair
operation_of (Register object_type template object) = operations.Register
operation_of (Locate attributes) = operations.Locate
operation_of (Get id format compression specification) = operations.Get
operation_of (GetAttributes id names) = operations.GetAttributes
operation_of (GetAttributeList id) = operations.GetAttributeList
operation_of (AddAttribute id attribute) = operations.AddAttribute
operation_of (ModifyAttribute id attribute) = operations.ModifyAttribute
operation_of (DeleteAttribute id name index) = operations.DeleteAttribute
operation_of (Activate id) = operations.Activate
operation_of (Revoke id reason date) = operations.Revoke
operation_of (Destroy id) = operations.Destroy
operation_of (Query functions) = operations.Query
operation_of (DiscoverVersions versions) = operations.DiscoverVersions
operation_of (Sign id parameters contents) = operations.Sign
operation_of (RNGRetrieve length) = operations.RNGRetrieve

-- the minor number of the version of KMIP 1 that a request of the payload is written in
abbrev pub minor_of : RequestPayload → ℕ
minor_of (Query functions) = 2
minor_of (DiscoverVersions versions) = 1
minor_of (Sign id parameters contents) = 2
minor_of (RNGRetrieve length) = 2
minor_of _ = 0

-- the version of KMIP that a request of the payload is written in (KMIP 1.0, 6.1)
abbrev pub version_of : RequestPayload → ProtocolVersion
version_of payload = record { 0 = record { 0 = pos 1 }; 1 = record { 0 = pos (minor_of payload) } }

abbrev pub password_trees : Option (List ℕ) → List Tree
password_trees None = []
password_trees (Some password) = scalar PASSWORD (text_string password) ∷ []

-- the Authentication item of a credential, where there is one (KMIP 1.0, 6.6)
abbrev pub authentication_trees : Option CredentialType → List Tree
authentication_trees None = []
authentication_trees (Some (UsernameAndPassword c)) =
    structure AUTHENTICATION (trees_of (
    structure CREDENTIAL (trees_of (
    scalar CREDENTIAL_TYPE (enumeration 1)
    ∷ structure CREDENTIAL_VALUE
    (trees_of (scalar USERNAME (text_string c.username) ∷ password_trees c.password))
    ∷ []))
    ∷ []))
    ∷ []

-- the credential that an Authentication holds
abbrev pub credential_of : Authentication → CredentialType
credential_of a = elim ((a.0).1) [
  | values.UsernameAndPassword username password ↦
      UsernameAndPassword
      (record { username = username.0; password = option_map (λ p. p.0) password })
]

-- the header of a request: its version, the credential where there is one, and batch count 1
abbrev pub header_tree : ℕ → List Tree → Tree
header_tree minor authentication =
    structure REQUEST_HEADER (trees_of (
    structure PROTOCOL_VERSION
    (trees_of (scalar PROTOCOL_VERSION_MAJOR (integer (pos 1)) ∷
    scalar PROTOCOL_VERSION_MINOR (integer (pos minor)) ∷ []))
    ∷ (authentication ++ scalar BATCH_COUNT (integer (pos 1)) ∷ [])))

-- the message of a header, the number of an operation and the item of a payload
abbrev pub message_tree : Tree → ℕ → Tree → Tree
message_tree header operation payload =
    structure REQUEST_MESSAGE (trees_of (
    header
    ∷ structure BATCH_ITEM (trees_of (scalar OPERATION (enumeration operation) ∷ payload ∷ []))
    ∷ []))

-- the request message round a payload and a credential, where the payload has a tree
abbrev pub request_tree : RequestPayload → Option CredentialType → Option Tree
request_tree payload credential =
    option_map (message_tree (header_tree (minor_of payload) (authentication_trees credential))
    (operation_line (operation_of payload)).number)
    (tree_of request_payload REQUEST_PAYLOAD (request_payload_val payload))

-- the one canonical message of a request, where it has one
abbrev pub request_bytes : RequestPayload → Option CredentialType → Option (List ℕ)
request_bytes payload credential = option_and_then bytes (request_tree payload credential)

-- the request is valid: it has canonical bytes
abbrev pub IsValidRequest : RequestPayload → Option CredentialType → Type 0
IsValidRequest payload credential = IsSome (request_bytes payload credential)
