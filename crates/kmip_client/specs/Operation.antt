-- A request of any operation, whose payload is a tree, and a call of it.
use Rattle.std.specs.Prelude.{◌≡◌, ℕ, List, [], ◌∷◌, false, Option, Some, None, Result, option_map}
use Rattle.kmip_tags.specs.Tags.{BATCH_ITEM, OPERATION, REQUEST_MESSAGE, UNIQUE_BATCH_ITEM_ID}
use Rattle.kmip_wire.specs.Tree.{Tree, scalar, structure, trees_of, enumeration, byte_string}
use Rattle.kmip_wire.specs.Parses.{Parses}
use Rattle.kmip_link.specs.State.{LinkState}
use Rattle.kmip_enums.specs.Operations.{operation_line}
use Rattle.kmip_enums.specs.declared.operation.Operation.{Operation}
use Rattle.kmip_types.specs.declared.auth.CredentialType.{CredentialType}
use Rattle.kmip_request.specs.Message.{message_tree, header_tree, authentication_trees}
use Rattle.kmip_client.specs.declared.error.Error.{Error}
use Rattle.kmip_client.specs.declared.operation.OperationRequest.{OperationRequest}
use Rattle.kmip_client.specs.declared.operation.Version.{Version}
use Rattle.kmip_client.specs.declared.operation.Version.TheVariants.{V1_0, V1_1, V1_2}
use Rattle.kmip_client.specs.Message.{message_at, Whole}
use Rattle.kmip_client.specs.Untyped.{IsSuccess, identified_answer, is_of_other_item}
use Rattle.kmip_client.specs.WholeMessage.{whole_bytes}
use Rattle.kmip_client.specs.Client.{ClientState}
use Rattle.kmip_client.specs.Calls.{CallKind, IsCallOf}

-- a request of an operation, whose payload is a tree
pub record TreeRequest : Type 0 where
  pub operation : Operation
  pub version : Version
  -- the Unique Batch Item ID, none where none is sent (KMIP 1.0, 6.4)
  pub id : Option (List ℕ)
  pub payload : Tree

-- what a request of the code's asks for
abbrev pub tree_request : OperationRequest → TreeRequest
tree_request r = record {
  operation = r.operation;
  version = r.version;
  id = option_map (λ id. id.now) r.id;
  payload = r.payload.now;
}

-- the minor number of a version of KMIP 1
abbrev pub minor_number : Version → ℕ
minor_number V1_0 = 0
minor_number V1_1 = 1
minor_number V1_2 = 2

-- the message of a header, and of a batch item with the number of an operation, a Unique Batch Item
-- ID where there is one, and the item of a payload (KMIP 1.0, 7.2)
abbrev pub identified_tree : Tree → ℕ → Option (List ℕ) → Tree → Tree
identified_tree header operation None payload = message_tree header operation payload
identified_tree header operation (Some id) payload =
    structure REQUEST_MESSAGE (trees_of (
    header
    ∷ structure BATCH_ITEM (trees_of (
    scalar OPERATION (enumeration operation)
    ∷ scalar UNIQUE_BATCH_ITEM_ID (byte_string id)
    ∷ payload
    ∷ []))
    ∷ []))

-- the request message round a payload tree: with no ID the message that a request of KMIP's tables
-- has, with this payload, version and operation
abbrev pub operation_tree : Operation → Version → Option CredentialType → Option (List ℕ) → Tree →
    Tree
operation_tree operation version credential id payload =
    identified_tree (header_tree (minor_number version) (authentication_trees credential))
    (operation_line operation).number id payload

-- the one canonical message of a request, where there is one: of at most 64 levels, as a reader wants
abbrev pub operation_bytes : TreeRequest → Option CredentialType → Option (List ℕ)
operation_bytes request credential =
    whole_bytes
    (operation_tree request.operation request.version credential request.id request.payload)

-- The bytes left begin with the message m, which parses, is not that of a request with another ID,
-- and is a success of this operation with this payload.
pub record IsValidTree (operation : Operation) (id : Option (List ℕ)) (limit : Option ℕ)
    (rest m : List ℕ) (payload : Tree) : Type 0 where
  pub message : Tree
  pub front : message_at rest limit ≡ Whole m
  pub parses : Parses message 1 m
  pub not_other : is_of_other_item id (Some message) ≡ false
  pub success : IsSuccess operation message payload

-- the calls of any operation
abbrev pub operation_calls : CallKind TreeRequest Tree
operation_calls = record {
  bytes_of = operation_bytes;
  reads = λ request. identified_answer request.operation request.id;
  IsValid = λ request. IsValidTree request.operation request.id;
}

-- what `do_operation` promises of a call
abbrev pub IsOperationCall : {T : Type 0} → (T → LinkState) → TreeRequest → ClientState T →
    ClientState T → Result Tree Error → Type 0
IsOperationCall state request before after answer =
    IsCallOf operation_calls state request before after answer
